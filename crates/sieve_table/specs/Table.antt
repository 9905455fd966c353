-- The table: a row for each command, test and tag says what it takes.
use Rattle.std.specs.Prelude.{ℕ, Bool, true, false, List, [], ◌∷◌, Option, Some, None, find, codes}
use Rattle.std.specs.Str.{str_eq_ignore_ascii_case}
use denote.Enum.Bare.{sameb}
use Rattle.sieve_profile.specs.Every.{every}
use Rattle.sieve_table.specs.contracts.row.TagKind as kinds
use Rattle.sieve_table.specs.contracts.table.CommandKind as command_kinds
use Rattle.sieve_table.specs.contracts.tag.Tag as tag_kinds
use Rattle.sieve_table.specs.contracts.table.TestKind as test_kinds
use Rattle.sieve_table.specs.declared.capability.Capability.{Capability}
use Rattle.sieve_table.specs.declared.capability.Capability.TheVariants as capability
use Rattle.sieve_table.specs.declared.row.Form.{Form}
use Rattle.sieve_table.specs.declared.row.Form.TheVariants as form
use Rattle.sieve_table.specs.declared.row.Inner.{Inner}
use Rattle.sieve_table.specs.declared.row.Inner.TheVariants as inner
use Rattle.sieve_table.specs.declared.row.Role.{Role}
use Rattle.sieve_table.specs.declared.row.Role.TheVariants as role
use Rattle.sieve_table.specs.declared.row.Slot.{Slot}
use Rattle.sieve_table.specs.declared.row.TagKind.{TagKind}
use Rattle.sieve_table.specs.declared.row.TagKind.TheVariants as kind
use Rattle.sieve_table.specs.declared.table.CommandKind.{CommandKind}
use Rattle.sieve_table.specs.declared.table.CommandKind.TheVariants as command
use Rattle.sieve_table.specs.declared.tag.Tag.{Tag}
use Rattle.sieve_table.specs.declared.tag.Tag.TheVariants as tag
use Rattle.sieve_table.specs.declared.table.TestKind.{TestKind}
use Rattle.sieve_table.specs.declared.table.TestKind.TheVariants as test

-- THE TYPES OF ROWS

-- the row of a command or a test (RFC 5228, 2.6)
pub record Row : Type 0 where
  -- the identifier of the command or the test, in lower case
  pub name : List ℕ
  -- the tags, in any order (RFC 5228, 2.6.2)
  pub tags : List Tag
  -- the kind of which exactly one tag has to be given, if there is such a kind
  pub one_of : Option TagKind
  -- a positional argument that may stand before the others
  pub front : Option Slot
  -- the positional arguments in order (RFC 5228, 2.6.1)
  pub slots : List Slot
  -- the tests after the arguments (RFC 5228, 2.5 and 2.5.1)
  pub tests : Inner
  -- whether the command ends by a block, and not by a semicolon (RFC 5228, 2.8 and 2.9)
  pub has_block : Bool
  -- the capabilities that have to be required for the command or the test (RFC 5228, 2.10.5)
  pub needs : List Capability

-- the row of a tag
pub record TagRow : Type 0 where
  -- the tag's identifier without the colon, in lower case
  pub name : List ℕ
  -- the tag's kind: at most one tag of each is given
  pub kind : TagKind
  -- the argument that it takes itself, directly after it
  pub takes : Option Slot
  -- the capability that has to be required for the tag
  pub needs : Option Capability

abbrev pub same_command : CommandKind → CommandKind → Bool
same_command a b = sameb command_kinds.the_type a b

abbrev pub same_tag : Tag → Tag → Bool
same_tag a b = sameb tag_kinds.the_type a b

abbrev pub same_kind : TagKind → TagKind → Bool
same_kind a b = sameb kinds.the_type a b

-- an argument of this form and role that needs no capability
abbrev pub slot : Form → Role → Slot
slot form role = record { form = form; role = role; needs = None }

-- an argument that names variables, for which `variables` has to be required
abbrev pub naming_slot : Form → Role → Slot
naming_slot form role = record { form = form; role = role; needs = Some capability.Variables }

-- the row of a command or a test that takes nothing
abbrev pub bare : List ℕ → Row
bare name = record { name = name; tags = []; one_of = None; front = None; slots = []; tests = inner.None; has_block = false; needs = [] }

-- the row of a tag that takes no argument and needs no capability
abbrev pub bare_tag : List ℕ → TagKind → TagRow
bare_tag name kind = record { name = name; kind = kind; takes = None; needs = None }

-- the rows of tags that need a capability, without an argument of their own and with one
abbrev pub needing_tag : List ℕ → TagKind → Capability → TagRow
needing_tag name kind needed = record { name = name; kind = kind; takes = None; needs = Some needed }

abbrev pub taking_tag : List ℕ → TagKind → Slot → Capability → TagRow
taking_tag name kind taken needed = record { name = name; kind = kind; takes = Some taken; needs = Some needed }

-- the row of a match type that takes a relation (RFC 5231, section 4)
abbrev pub relation_tag : List ℕ → TagRow
relation_tag name = taking_tag name kind.MatchType (slot form.One role.Relation) capability.Relational

-- the row of a tag of `duplicate` that takes an argument (RFC 7352, section 3)
abbrev pub tracking_tag : List ℕ → TagKind → Form → TagRow
tracking_tag name kind form = taking_tag name kind (slot form role.Tracking) capability.Duplicate

-- the row of a tag of `vacation` that takes an argument (RFC 5230, section 4)
abbrev pub response_tag : List ℕ → TagKind → Form → Role → TagRow
response_tag name kind form role = taking_tag name kind (slot form role) capability.Vacation

-- THE ROWS OF THE TABLE

abbrev pub tag_row : Tag → TagRow
-- RFC 5228, section 2.7.3
tag_row tag.Comparator = record (bare_tag (codes "comparator") kind.Comparator) { takes = Some (slot form.One role.ComparatorName) }
-- RFC 5228, section 2.7.1
tag_row tag.Is = bare_tag (codes "is") kind.MatchType
tag_row tag.Contains = bare_tag (codes "contains") kind.MatchType
tag_row tag.Matches = bare_tag (codes "matches") kind.MatchType
-- RFC 5231, section 4
tag_row tag.Value = relation_tag (codes "value")
tag_row tag.Count = relation_tag (codes "count")
-- RFC 5228, section 2.7.4
tag_row tag.All = bare_tag (codes "all") kind.AddressPart
tag_row tag.LocalPart = bare_tag (codes "localpart") kind.AddressPart
tag_row tag.Domain = bare_tag (codes "domain") kind.AddressPart
-- RFC 5233, section 4
tag_row tag.User = needing_tag (codes "user") kind.AddressPart capability.Subaddress
tag_row tag.Detail = needing_tag (codes "detail") kind.AddressPart capability.Subaddress
-- RFC 5228, section 5.9
tag_row tag.Over = bare_tag (codes "over") kind.Bound
tag_row tag.Under = bare_tag (codes "under") kind.Bound
-- RFC 5229, section 4.1.3
tag_row tag.Lower = bare_tag (codes "lower") kind.Case
tag_row tag.Upper = bare_tag (codes "upper") kind.Case
tag_row tag.LowerFirst = bare_tag (codes "lowerfirst") kind.FirstLetter
tag_row tag.UpperFirst = bare_tag (codes "upperfirst") kind.FirstLetter
-- RFC 5229, section 4.1.2
tag_row tag.QuoteWildcard = bare_tag (codes "quotewildcard") kind.QuoteWildcard
-- RFC 5229, section 4.1.1
tag_row tag.Length = bare_tag (codes "length") kind.Length
-- RFC 5232, section 5
tag_row tag.Flags = taking_tag (codes "flags") kind.Flags (slot form.List role.Flags) capability.Imap4flags
-- RFC 3894, section 3
tag_row tag.Copy = needing_tag (codes "copy") kind.Copy capability.Copy
-- RFC 5490, section 3.2
tag_row tag.Create = needing_tag (codes "create") kind.Create capability.Mailbox
-- RFC 8579, section 4
tag_row tag.SpecialUse = taking_tag (codes "specialuse") kind.SpecialUse (slot form.One role.Text) capability.SpecialUse
-- RFC 7352, sections 3.1, 3.2 and 3.3: of `:header` and `:uniqueid` one may be given
tag_row tag.Handle = tracking_tag (codes "handle") kind.Handle form.One
tag_row tag.Header = tracking_tag (codes "header") kind.UniqueId form.One
tag_row tag.UniqueId = tracking_tag (codes "uniqueid") kind.UniqueId form.One
tag_row tag.Seconds = tracking_tag (codes "seconds") kind.Seconds form.Number
tag_row tag.Last = needing_tag (codes "last") kind.Last capability.Duplicate
-- RFC 5230, sections 4.1 to 4.5
tag_row tag.Days = response_tag (codes "days") kind.Days form.Number role.Days
tag_row tag.Subject = response_tag (codes "subject") kind.Subject form.One role.Subject
tag_row tag.From = response_tag (codes "from") kind.From form.One role.Sender
tag_row tag.Addresses = response_tag (codes "addresses") kind.Addresses form.List role.OwnAddresses
tag_row tag.Mime = needing_tag (codes "mime") kind.Mime capability.Vacation
tag_row tag.ResponseHandle = response_tag (codes "handle") kind.Handle form.One role.Handle
-- RFC 5260, section 4.1
tag_row tag.Zone = taking_tag (codes "zone") kind.Zone (slot form.One role.Zone) capability.Date
tag_row tag.OriginalZone = needing_tag (codes "originalzone") kind.Zone capability.Date
-- RFC 5173, section 5
tag_row tag.Raw = needing_tag (codes "raw") kind.BodyTransform capability.Body
tag_row tag.Content = taking_tag (codes "content") kind.BodyTransform (slot form.List role.ContentTypes) capability.Body
tag_row tag.Text = needing_tag (codes "text") kind.BodyTransform capability.Body
-- RFC 6609, section 3.2
tag_row tag.Personal = bare_tag (codes "personal") kind.Location
tag_row tag.Global = bare_tag (codes "global") kind.Location
tag_row tag.Once = bare_tag (codes "once") kind.Once
tag_row tag.Optional = bare_tag (codes "optional") kind.Optional

-- the match types (RFC 5228, 2.7.1; RFC 5231, section 4)
abbrev pub match_tags : List Tag
match_tags = tag.Is ∷ tag.Contains ∷ tag.Matches ∷ tag.Value ∷ tag.Count ∷ []

-- the tags that say how values are compared with keys (RFC 5228, 2.7)
abbrev pub comparing_tags : List Tag
comparing_tags = tag.Comparator ∷ match_tags

-- the tags that name a part of an address (RFC 5228, 2.7.4; RFC 5233, section 4), and
-- those of comparing
abbrev pub address_tags : List Tag
address_tags = tag.All ∷ tag.LocalPart ∷ tag.Domain ∷ tag.User ∷ tag.Detail ∷ comparing_tags

-- The modifiers of a value. Those of one precedence are of one kind (RFC 5229, 4.1).
abbrev pub modifier_tags : List Tag
modifier_tags = tag.Lower ∷ tag.Upper ∷ tag.LowerFirst ∷ tag.UpperFirst ∷ tag.QuoteWildcard ∷ tag.Length ∷ []

-- The row of a command that changes flags. They are those of a variable where one is named
-- (RFC 5232, section 3).
abbrev pub flag_command : List ℕ → Row
flag_command name = record (bare name) { front = Some (naming_slot form.One role.NameToSet); slots = slot form.List role.Flags ∷ []; needs = capability.Imap4flags ∷ [] }

-- the row of a command that refuses the message for a reason (RFC 5429, section 2)
abbrev pub refusing_command : List ℕ → Capability → Row
refusing_command name needed = record (bare name) { slots = slot form.One role.Text ∷ []; needs = needed ∷ [] }

abbrev pub command_row : CommandKind → Row
-- RFC 5228, section 3.2
command_row command.Require = record (bare (codes "require")) { slots = slot form.List role.Capabilities ∷ [] }
-- RFC 5228, section 3.1
command_row command.If = record (bare (codes "if")) { tests = inner.One; has_block = true }
command_row command.Elsif = record (bare (codes "elsif")) { tests = inner.One; has_block = true }
command_row command.Else = record (bare (codes "else")) { has_block = true }
-- RFC 5228, section 4.3; RFC 5232, section 5
command_row command.Keep = record (bare (codes "keep")) { tags = tag.Flags ∷ [] }
-- RFC 5228, section 4.1; RFC 5232, section 5; RFC 3894, section 3; RFC 5490, section 3.2;
-- RFC 8579, section 4
command_row command.Fileinto = record (bare (codes "fileinto")) { tags = tag.Flags ∷ tag.Copy ∷ tag.Create ∷ tag.SpecialUse ∷ []; slots = slot form.One role.Mailbox ∷ []; needs = capability.Fileinto ∷ [] }
-- RFC 5228, section 4.2; RFC 3894, section 3
command_row command.Redirect = record (bare (codes "redirect")) { tags = tag.Copy ∷ []; slots = slot form.One role.Address ∷ [] }
-- RFC 5228, section 4.4
command_row command.Discard = bare (codes "discard")
-- RFC 5228, section 3.3
command_row command.Stop = bare (codes "stop")
-- RFC 5229, section 4
command_row command.Set = record (bare (codes "set")) { tags = modifier_tags; slots = slot form.One role.NameToSet ∷ slot form.One role.Text ∷ []; needs = capability.Variables ∷ [] }
-- RFC 5232, sections 3.1, 3.2 and 3.3
command_row command.SetFlag = flag_command (codes "setflag")
command_row command.AddFlag = flag_command (codes "addflag")
command_row command.RemoveFlag = flag_command (codes "removeflag")
-- RFC 6609, section 3.2
command_row command.Include = record (bare (codes "include")) { tags = tag.Personal ∷ tag.Global ∷ tag.Once ∷ tag.Optional ∷ []; slots = slot form.One role.ScriptName ∷ []; needs = capability.Include ∷ [] }
-- RFC 6609, section 3.3
command_row command.Return = record (bare (codes "return")) { needs = capability.Include ∷ [] }
-- RFC 6609, section 3.4.1
command_row command.Global = record (bare (codes "global")) { slots = slot form.List role.NamesToDeclare ∷ []; needs = capability.Include ∷ capability.Variables ∷ [] }
-- RFC 5230, section 4
command_row command.Vacation = record (bare (codes "vacation")) { tags = tag.Days ∷ tag.Subject ∷ tag.From ∷ tag.Addresses ∷ tag.Mime ∷ tag.ResponseHandle ∷ []; slots = slot form.One role.Text ∷ []; needs = capability.Vacation ∷ [] }
-- RFC 5429, sections 2.2 and 2.1
command_row command.Reject = refusing_command (codes "reject") capability.Reject
command_row command.Ereject = refusing_command (codes "ereject") capability.Ereject

abbrev pub test_row : TestKind → Row
-- RFC 5228, section 5.7
test_row test.Header = record (bare (codes "header")) { tags = comparing_tags; slots = slot form.List role.FieldNames ∷ slot form.List role.Keys ∷ [] }
-- RFC 5228, section 5.1
test_row test.Address = record (bare (codes "address")) { tags = address_tags; slots = slot form.List role.AddressFields ∷ slot form.List role.Keys ∷ [] }
-- RFC 5228, section 5.4
test_row test.Envelope = record (bare (codes "envelope")) { tags = address_tags; slots = slot form.List role.EnvelopeParts ∷ slot form.List role.Keys ∷ []; needs = capability.Envelope ∷ [] }
-- RFC 5228, section 5.5
test_row test.Exists = record (bare (codes "exists")) { slots = slot form.List role.FieldNames ∷ [] }
-- RFC 5228, section 5.9
test_row test.Size = record (bare (codes "size")) { tags = tag.Over ∷ tag.Under ∷ []; one_of = Some kind.Bound; slots = slot form.Number role.Limit ∷ [] }
-- RFC 5228, sections 5.2 and 5.3
test_row test.AllOf = record (bare (codes "allof")) { tests = inner.List }
test_row test.AnyOf = record (bare (codes "anyof")) { tests = inner.List }
-- RFC 5228, section 5.8
test_row test.Not = record (bare (codes "not")) { tests = inner.One }
-- RFC 5228, sections 5.10 and 5.6
test_row test.True = bare (codes "true")
test_row test.False = bare (codes "false")
-- RFC 5229, section 5
test_row test.String = record (bare (codes "string")) { tags = comparing_tags; slots = slot form.List role.Text ∷ slot form.List role.Keys ∷ []; needs = capability.Variables ∷ [] }
-- RFC 5232, section 4
test_row test.HasFlag = record (bare (codes "hasflag")) { tags = comparing_tags; front = Some (naming_slot form.List role.NamesToRead); slots = slot form.List role.Keys ∷ []; needs = capability.Imap4flags ∷ [] }
-- RFC 5490, section 3.1
test_row test.MailboxExists = record (bare (codes "mailboxexists")) { slots = slot form.List role.Mailbox ∷ []; needs = capability.Mailbox ∷ [] }
-- RFC 7352, section 3
test_row test.Duplicate = record (bare (codes "duplicate")) { tags = tag.Handle ∷ tag.Header ∷ tag.UniqueId ∷ tag.Seconds ∷ tag.Last ∷ []; needs = capability.Duplicate ∷ [] }
-- RFC 5260, sections 4 and 5
test_row test.Date = record (bare (codes "date")) { tags = tag.Zone ∷ tag.OriginalZone ∷ comparing_tags; slots = slot form.One role.FieldNames ∷ slot form.One role.DatePart ∷ slot form.List role.Keys ∷ []; needs = capability.Date ∷ [] }
test_row test.CurrentDate = record (bare (codes "currentdate")) { tags = tag.Zone ∷ comparing_tags; slots = slot form.One role.DatePart ∷ slot form.List role.Keys ∷ []; needs = capability.Date ∷ [] }
-- RFC 5173, section 4
test_row test.Body = record (bare (codes "body")) { tags = tag.Raw ∷ tag.Content ∷ tag.Text ∷ comparing_tags; slots = slot form.List role.Keys ∷ []; needs = capability.Body ∷ [] }

-- THE LOOK-UP

-- Whether `written` is this identifier. Identifiers ignore the case of ASCII (RFC 5228, 2.1).
abbrev pub is_named : List ℕ → List ℕ → Bool
is_named name written = str_eq_ignore_ascii_case name written

abbrev pub commands : List CommandKind
commands = every command_kinds.enum tt

abbrev pub tests : List TestKind
tests = every test_kinds.enum tt

abbrev pub all_tags : List Tag
all_tags = every tag_kinds.enum tt

-- the command with this identifier (RFC 5228, 2.1)
unfoldable pub command_named : List ℕ → Option CommandKind
command_named written = find (λ kind. is_named (command_row kind).name written) commands

-- the test with this identifier (RFC 5228, 2.1)
unfoldable pub test_named : List ℕ → Option TestKind
test_named written = find (λ kind. is_named (test_row kind).name written) tests

-- the first of some tags with this identifier (RFC 5228, 2.1)
abbrev pub tag_named : List Tag → List ℕ → Option Tag
tag_named tags written = find (λ tag. is_named (tag_row tag).name written) tags
