-- How commands are printed in a dump.
use Rattle.std.specs.Prelude.{ℕ, Bool, List, [], ◌++◌, Option, Some, None, codes, decimal}
use Rattle.script_names.specs.Name.{location_word}
use Rattle.devices.specs.Writers.{quoted}
use Rattle.script_names.specs.declared.location.Location.{Location}
use Rattle.sieve_script.specs.Reading.{Settings, Vacation, Leaf, keep_leaf, fileinto_leaf, redirect_leaf, discard_leaf, set_leaf, flag_leaf, include_leaf, vacation_leaf, reject_leaf, rejection_word}
use Rattle.sieve_script.specs.declared.reading.FlagChange.{FlagChange}
use Rattle.sieve_script.specs.declared.reading.FlagChange.TheVariants as change
use Rattle.sieve_script.specs.declared.reading.Rejection.{Rejection}
use Rattle.sieve_variables.specs.Part.{Part}
use Rattle.sieve_variables.specs.Variable.{Variable}
use Rattle.sieve_variables.specs.declared.modifier.LetterCase.{LetterCase}
use Rattle.sieve_variables.specs.declared.modifier.LetterCase.TheVariants as letter_case
use Rattle.sieve_variables.specs.declared.modifier.Modifiers.{Modifiers}
use Rattle.sieve_dump.specs.Strings.{given_string_text, given_word, list_text, name_of, scope_word, worded_text}

-- the flags of a store: those that are named, or `internal` for the internal ones
unfoldable pub stored_flags : Option (List (List Part)) → List ℕ
stored_flags None = codes " internal"
stored_flags (Some flags) = codes " flags " ++ list_text flags

-- the word that says that an action is a copy
unfoldable pub copy_word : Bool → List ℕ
copy_word copy = given_word copy (codes " copy")

-- the word that says that a mailbox is made if it isn't there
unfoldable pub create_word : Bool → List ℕ
create_word create = given_word create (codes " create")

-- the settings of the mailbox that a command stores into
unfoldable pub filing_words : Settings → List ℕ
filing_words settings = create_word settings.create ++ given_string_text (codes " special-use ") settings.special_use

-- the settings of a store beside its flags
unfoldable pub store_words : Settings → List ℕ
store_words settings = filing_words settings ++ copy_word settings.copy

-- the settings of a `fileinto` beside its mailbox
unfoldable pub stored_text : Settings → List ℕ
stored_text settings = stored_flags settings.flags ++ store_words settings

-- the flags of the store of a `keep`, after its word
unfoldable pub worded_flags : List ℕ → Option (List (List Part)) → List ℕ
worded_flags word flags = word ++ stored_flags flags

-- the words of modifiers, those of higher precedence first
abbrev pub case_word : Option LetterCase → List ℕ
case_word None = []
case_word (Some letter_case.Lower) = codes " lower"
case_word (Some letter_case.Upper) = codes " upper"

abbrev pub first_word : Option LetterCase → List ℕ
first_word None = []
first_word (Some letter_case.Lower) = codes " lowerfirst"
first_word (Some letter_case.Upper) = codes " upperfirst"

-- the modifiers of a `set`, after its variable
unfoldable pub modifier_words : Modifiers → List ℕ
modifier_words modifiers = case_word modifiers.letter_case ++ first_word modifiers.first_letter ++ given_word modifiers.quote_wildcard (codes " quotewildcard") ++ given_word modifiers.length (codes " length") ++ codes " "

-- a variable after a word
unfoldable pub worded_variable : List ℕ → Variable → List ℕ
worded_variable word variable = word ++ scope_word variable ++ name_of variable ++ codes ")"

-- a `set` without its value
unfoldable pub set_words : Variable → Modifiers → List ℕ
set_words variable modifiers = worded_variable (codes "set ") variable ++ modifier_words modifiers

abbrev pub change_word : FlagChange → List ℕ
change_word change.Set = codes "setflag"
change_word change.Add = codes "addflag"
change_word change.Remove = codes "removeflag"

-- the words of a command that changes flags, up to the flags, with the variable or `internal`
unfoldable pub changing_words : FlagChange → Option Variable → List ℕ
changing_words how None = change_word how ++ codes " internal "
changing_words how (Some variable) = change_word how ++ codes " " ++ scope_word variable ++ name_of variable ++ codes ") "

-- an `include`
unfoldable pub include_words : Location → (once optional : Bool) → List ℕ → List ℕ
include_words location once optional name = codes "include " ++ location_word location ++ given_word once (codes " once") ++ given_word optional (codes " optional") ++ codes " " ++ quoted name

-- for how many days a sender gets no other response, if that is said
unfoldable pub days_words : Option ℕ → List ℕ
days_words None = []
days_words (Some days) = codes " days " ++ decimal days

-- further addresses of the user, if they are given
unfoldable pub addresses_words : Option (List (List Part)) → List ℕ
addresses_words None = []
addresses_words (Some addresses) = codes " addresses " ++ list_text addresses

-- the word that says that the text of a response is a MIME entity
unfoldable pub mime_word : Bool → List ℕ
mime_word mime = given_word mime (codes " mime")

-- The arguments of a `vacation` beside its text. First how often a sender gets a response, its
-- subject and its sender. Then the others.
unfoldable pub sending_words : Vacation → List ℕ
sending_words vacation = days_words vacation.days ++ given_string_text (codes " subject ") vacation.subject ++ given_string_text (codes " from ") vacation.from

unfoldable pub further_words : Vacation → List ℕ
further_words vacation = addresses_words vacation.addresses ++ mime_word vacation.mime ++ given_string_text (codes " handle ") vacation.handle

-- all these arguments, after the command's word
unfoldable pub vacation_words : List ℕ → Vacation → List ℕ
vacation_words word vacation = word ++ sending_words vacation ++ further_words vacation

unfoldable pub vacation_text : Vacation → List ℕ
vacation_text vacation = vacation_words (codes "vacation") vacation ++ worded_text (codes " ") vacation.reason

unfoldable pub reject_text : Rejection → List Part → List ℕ
reject_text how reason = rejection_word how ++ worded_text (codes " ") reason

unfoldable pub leaf_text : Leaf → List ℕ
leaf_text (keep_leaf flags) = worded_flags (codes "keep") flags
leaf_text (fileinto_leaf mailbox settings) = worded_text (codes "fileinto ") mailbox ++ stored_text settings
leaf_text (redirect_leaf address copy) = worded_text (codes "redirect ") address ++ copy_word copy
leaf_text discard_leaf = codes "discard"
leaf_text (set_leaf variable modifiers value) = worded_text (set_words variable modifiers) value
leaf_text (flag_leaf how variable flags) = changing_words how variable ++ list_text flags
leaf_text (include_leaf location once optional name) = include_words location once optional name
leaf_text (vacation_leaf vacation) = vacation_text vacation
leaf_text (reject_leaf how reason) = reject_text how reason
