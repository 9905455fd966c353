-- The readings of commands and tests, with defaults filled in (RFC 5228, sections 3, 4 and 5).
use Rattle.std.specs.Prelude.{ℕ, Bool, false, List, Option, None, codes}
use Rattle.message_text.specs.declared.addressing.AddressPart.{AddressPart}
use Rattle.script_names.specs.declared.location.Location.{Location}
use Rattle.sieve_script.specs.declared.reading.FlagChange.{FlagChange}
use Rattle.sieve_script.specs.declared.reading.Comparison.{Comparison}
use Rattle.sieve_script.specs.declared.reading.Rejection.{Rejection}
use Rattle.sieve_script.specs.declared.reading.Rejection.TheVariants.{Reject, Ereject}
use Rattle.sieve_variables.specs.Part.{Part}
use Rattle.sieve_variables.specs.Variable.{Variable}
use Rattle.sieve_variables.specs.declared.modifier.Modifiers.{Modifiers}

-- The zone in which a date is shown (RFC 5260, section 4.1). It is the local one, that in which the
-- date was written, or one that is named.
pub data DateZone : Type 0 where
  local_zone : DateZone
  original_zone : DateZone
  named_zone : (zone : List Part) → DateZone

-- The part of a body that a test looks at (RFC 5173, section 5). It is all of it as it stands, the
-- contents of the types that some entries name, or its texts.
pub data BodyTransform : Type 0 where
  raw_transform : BodyTransform
  content_transform : (entries : List (List Part)) → BodyTransform
  text_transform : BodyTransform

-- Where a test takes values from. It takes the fields of some names (RFC 5228, section 5.7). Or
-- it takes a part of the addresses in such fields (RFC 5228, section 5.1). Or it takes a part of
-- an envelope's addresses (RFC 5228, section 5.4), or strings themselves (RFC 5229, section 5).
-- Or it takes flags: those that some variables hold, or else the internal ones (RFC 5232,
-- section 4). Or it takes a part of the date of a field (RFC 5260, section 4). Or it takes a part
-- of the current date (RFC 5260, section 5). Or it takes the body of the message (RFC 5173,
-- section 4). A string is its parts.
pub data ValueSource : Type 0 where
  field_values : (part : Option AddressPart) (names : List (List Part)) → ValueSource
  envelope_values : (part : AddressPart) (names : List (List Part)) → ValueSource
  string_values : (texts : List (List Part)) → ValueSource
  flag_values : (variables : Option (List (List Part))) → ValueSource
  date_values : (zone : DateZone) (field part : List Part) → ValueSource
  clock_values : (zone : DateZone) (part : List Part) → ValueSource
  body_values : (transform : BodyTransform) → ValueSource

-- The question of a test without tests in it, other than `true` and `false` (RFC 5228,
-- section 5). It compares values with keys (RFC 5228, section 2.7), or looks at the message. Or
-- it asks whether the server has mailboxes (RFC 5490, section 3.1). `duplicate` asks whether
-- the message came before (RFC 7352, section 3). Its arguments aren't read, since a bench has
-- seen no message before.
pub data Ask : Type 0 where
  compares : (source : ValueSource) (comparison : Comparison) (keys : List (List Part)) → Ask
  exists_ask : (names : List (List Part)) → Ask
  over_ask : (limit : ℕ) → Ask
  under_ask : (limit : ℕ) → Ask
  mailboxes_ask : (names : List (List Part)) → Ask
  duplicate_ask : Ask

-- The settings of a `fileinto`, beside its mailbox. `flags` are those of the stored message, where
-- it names them (RFC 5232, section 5). `copy` says whether it has `:copy` (RFC 3894, section 3),
-- and `create` whether it has `:create` (RFC 5490, section 3.2). `special_use` is the use of a
-- mailbox, where it names one (RFC 8579, section 4).
pub record Settings : Type 0 where
  pub flags : Option (List (List Part))
  pub copy : Bool
  pub create : Bool
  pub special_use : Option (List Part)

-- the settings of a `fileinto` that has none beside its mailbox, and of a `keep`
-- that names no flags
abbrev pub plain_settings : Settings
plain_settings = record { flags = None; copy = false; create = false; special_use = None }

-- The arguments of a `vacation` (RFC 5230, section 4). `reason` is the text of the response, and
-- `mime` says whether it is a MIME entity (RFC 5230, section 4.4). A sender gets no other response
-- for `days` days (RFC 5230, section 4.1). `subject` is the subject of the response, and `from`
-- says whom it is from (RFC 5230, section 4.3). `addresses` are further addresses of the user
-- (RFC 5230, section 4.5). By `handle` a server would know such a response (RFC 5230, section 4.2).
-- All but the text may be left out.
pub record Vacation : Type 0 where
  pub reason : List Part
  pub days : Option ℕ
  pub subject : Option (List Part)
  pub from : Option (List Part)
  pub addresses : Option (List (List Part))
  pub mime : Bool
  pub handle : Option (List Part)

-- the word of an action by which a message is rejected (RFC 5429, sections 2.2 and 2.1)
abbrev pub rejection_word : Rejection → List ℕ
rejection_word Reject = codes "reject"
rejection_word Ereject = codes "ereject"

-- A command that acts. A `keep` may name flags (RFC 5232, section 5), and a `redirect` may be a
-- copy (RFC 3894, section 3). One that changes flags changes those that a variable holds, or else
-- the internal ones (RFC 5232, section 3). One that includes a script names its location and its
-- name (RFC 6609, section 3.2). It also says whether the script runs once at most, and whether it
-- may be missing. One that answers the sender is a `vacation` (RFC 5230). One that rejects the
-- message says by which action, and for which reason (RFC 5429).
pub data Leaf : Type 0 where
  keep_leaf : (flags : Option (List (List Part))) → Leaf
  fileinto_leaf : (mailbox : List Part) (settings : Settings) → Leaf
  redirect_leaf : (address : List Part) (copy : Bool) → Leaf
  discard_leaf : Leaf
  set_leaf : (variable : Variable) (modifiers : Modifiers) (value : List Part) → Leaf
  flag_leaf : (change : FlagChange) (variable : Option Variable) (flags : List (List Part)) → Leaf
  include_leaf : (location : Location) (once optional : Bool) (name : List ℕ) → Leaf
  vacation_leaf : (vacation : Vacation) → Leaf
  reject_leaf : (how : Rejection) (reason : List Part) → Leaf

-- A test without the tests in it. It holds always (RFC 5228, section 5.10), never
-- (RFC 5228, section 5.6), or by its question. Or it joins the tests in it: all of them
-- (RFC 5228, section 5.2), or any (RFC 5228, section 5.3). Or it negates the one test in it
-- (RFC 5228, section 5.8).
pub data TestReading : Type 0 where
  reads_always : TestReading
  reads_never : TestReading
  reads_ask : (ask : Ask) → TestReading
  reads_all : TestReading
  reads_any : TestReading
  reads_not : TestReading

-- A command without its test and its block. An `if` begins a list of branches (RFC 5228,
-- section 3.1). An `elsif` or `else` adds a branch to it, and an `else` is the last. Other
-- commands end the run (RFC 5228, section 3.3), end their script (RFC 6609, section 3.3),
-- do nothing, or act.
pub data CommandReading : Type 0 where
  reads_if : CommandReading
  reads_elsif : CommandReading
  reads_else : CommandReading
  reads_stop : CommandReading
  reads_return : CommandReading
  reads_nothing : CommandReading
  reads_act : (leaf : Leaf) → CommandReading
