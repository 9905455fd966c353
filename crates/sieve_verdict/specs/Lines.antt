-- The lines of a verdict, each without the spaces before it and the line end after it in a report.
use Rattle.std.specs.Prelude.{ℕ, Bool, true, false, List, [], ◌∷◌, ◌++◌, map, nat_eq, Option, None, Some, codes, decimal}
use Rattle.std.specs.List.{flat_map}
use Rattle.std.specs.Str.Lines.{lines}
use lib.Pointwise.{pointwise}
use Rattle.devices.specs.Writers.{name_text, quoted}
use Rattle.script_names.specs.declared.name.ScriptName.{ScriptName}
use Rattle.sieve_delivery.specs.ErrorKind.{error_word}
use Rattle.sieve_delivery.specs.declared.action.Action.{Action}
use Rattle.sieve_delivery.specs.declared.action.Action.TheVariants.{Store, Redirect, Discard, Respond, Reject}
use Rattle.sieve_delivery.specs.declared.action.Filing.{Filing}
use Rattle.sieve_delivery.specs.declared.action.Origin.{Origin}
use Rattle.sieve_delivery.specs.declared.error.RunError.{RunError}
use Rattle.sieve_delivery.specs.declared.response.Response.{Response}
use Rattle.sieve_script.specs.Reading.{rejection_word}
use Rattle.sieve_verdict.specs.Verdict.{Verdict, actions_of}

-- a text after a space, and several texts, each after a space
abbrev pub spaced_word : List ℕ → List ℕ
spaced_word text = codes " " ++ quoted text

abbrev pub spaced_words : List (List ℕ) → List ℕ
spaced_words texts = flat_map spaced_word texts

-- a word and a text, if the text is given
abbrev pub given_words : List ℕ → Option (List ℕ) → List ℕ
given_words word None = []
given_words word (Some text) = word ++ quoted text

-- a word and a text
unfoldable pub worded_text : List ℕ → List ℕ → List ℕ
worded_text word text = word ++ quoted text

-- a word and texts, each after a space
unfoldable pub worded_texts : List ℕ → List (List ℕ) → List ℕ
worded_texts word texts = word ++ spaced_words texts

-- the line of a word and a mailbox with flags
unfoldable pub mailbox_line : List ℕ → List ℕ → List (List ℕ) → List ℕ
mailbox_line word mailbox flags = worded_text word mailbox ++ spaced_words flags

-- The settings of a store beside its mailbox and its flags. One says that its mailbox is made if it
-- isn't there (RFC 5490, 3.2). The other names the use of a mailbox. If there is one of that use,
-- the message is stored into it (RFC 8579, 4).
abbrev pub create_word : Bool → List ℕ
create_word false = []
create_word true = codes " create"

unfoldable pub filing_words : Filing → List ℕ
filing_words filing = create_word filing.create ++ given_words (codes " special-use ") filing.special_use

-- for how many days a sender gets no other response (RFC 5230, 4.1), if that is said
abbrev pub days_words : Option ℕ → List ℕ
days_words None = []
days_words (Some days) = codes " days " ++ decimal days

-- further addresses of the user (RFC 5230, 4.5), if they are given
abbrev pub addresses_words : Option (List (List ℕ)) → List ℕ
addresses_words None = []
addresses_words (Some addresses) = worded_texts (codes " addresses") addresses

-- the word of a response whose text is a MIME entity (RFC 5230, 4.4)
abbrev pub mime_word : Bool → List ℕ
mime_word false = []
mime_word true = codes " mime"

-- The settings of a response beside its text. First how often a sender gets one, its subject and
-- its sender. Then the others.
unfoldable pub sending_words : Response → List ℕ
sending_words response = days_words response.days ++ given_words (codes " subject ") response.subject ++ given_words (codes " from ") response.from

unfoldable pub further_words : Response → List ℕ
further_words response = addresses_words response.addresses ++ mime_word response.mime ++ given_words (codes " handle ") response.handle

-- the line of a response (RFC 5230, 4)
unfoldable pub response_line : Response → List ℕ
response_line response = worded_text (codes "vacation ") response.reason ++ sending_words response ++ further_words response

-- the line of an action
unfoldable pub action_line : Action → List ℕ
action_line (Store mailbox flags filing) = mailbox_line (codes "store ") mailbox flags ++ filing_words filing
action_line (Redirect address) = codes "redirect " ++ quoted address
action_line Discard = codes "discard"
action_line (Respond response) = response_line response
action_line (Reject how reason) = rejection_word how ++ spaced_word reason

-- the line of the implicit keep with its flags
unfoldable pub implicit_line : (mailbox : List ℕ) → List (List ℕ) → List ℕ
implicit_line mailbox flags = mailbox_line (codes "implicit ") mailbox flags

-- the line of an error
unfoldable pub error_line : RunError → List ℕ
error_line error = codes "error " ++ name_text error.script ++ codes " line " ++ decimal error.line ++ codes " " ++ error_word error.kind

-- the line of the command that entered an action
unfoldable pub origin_line : Origin → List ℕ
origin_line origin = codes "at " ++ name_text origin.script ++ codes " line " ++ decimal origin.line

-- the line of a looked-up name, present or missing
unfoldable pub lookup_line : ScriptName × Bool → List ℕ
lookup_line (name, true) = codes "read " ++ name_text name
lookup_line (name, false) = codes "read " ++ name_text name ++ codes " missing"

abbrev pub implicit_lines : (mailbox : List ℕ) → Option (List (List ℕ)) → List (List ℕ)
implicit_lines mailbox None = []
implicit_lines mailbox (Some flags) = implicit_line mailbox flags ∷ []

abbrev pub error_lines : Option RunError → List (List ℕ)
error_lines None = []
error_lines (Some error) = error_line error ∷ []

-- The lines of a verdict, without those of looked-up names. They are the actions in order, the
-- implicit keep if there is one, and the error if there is one.
abbrev pub verdict_lines : (mailbox : List ℕ) → Verdict → List (List ℕ)
verdict_lines mailbox verdict = map action_line (actions_of verdict) ++ (implicit_lines mailbox verdict.implicit ++ error_lines verdict.error)

-- the lines of the names that were looked up
abbrev pub lookup_lines : Verdict → List (List ℕ)
lookup_lines verdict = map lookup_line verdict.lookups

-- Whether a text has these lines and no others. A line of a text ends at an LF. A CR directly
-- before the LF is no part of the line. After the last LF there is a line only if octets follow it.
abbrev pub says : List ℕ → List (List ℕ) → Bool
says text wanted = pointwise (pointwise nat_eq) (lines text) wanted

-- Whether a text says what becomes of a message, line by line, whatever names were looked up. The
-- empty text says nothing.
unfoldable pub agrees : (mailbox : List ℕ) → Verdict → (text : List ℕ) → Bool
agrees mailbox verdict [] = false
agrees mailbox verdict (octet ∷ text) = says (octet ∷ text) (verdict_lines mailbox verdict)
