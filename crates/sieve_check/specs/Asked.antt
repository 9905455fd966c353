-- The arguments that the reading of a command or a test asks for (RFC 5228, sections 4 and 5).
-- Extensions add variables (RFC 5229, sections 4 and 5) and flags (RFC 5232, sections 3 to 5). They
-- add `include` (RFC 6609, section 3), mailboxes (RFC 5490, section 3) and special uses (RFC 8579,
-- section 4). They add `vacation` (RFC 5230, section 4), `reject` and `ereject` (RFC 5429,
-- section 2). They add dates (RFC 5260, sections 4 and 5) and `body` (RFC 5173, section 4).
use Rattle.std.specs.Prelude.{◌≡◌, Bool, true, false, not, ◌&&◌, List, [], ◌∷◌, ◌++◌, Option, Some, None}
use Rattle.std.specs.List.{filter, flat_map, list_all, list_any}
use denote.Enum.Bare.{sameb}
use Rattle.sieve_script.specs.Given.{given_number, given_text, given_texts, given_variable, in_role, literal_in, number_in, text_in, texts_in, variable_in}
use Rattle.sieve_script.specs.CutArgument.{CutArgument}
use Rattle.sieve_script.specs.declared.label.Label.{Label}
use Rattle.sieve_table.specs.Role.{is_expanded, names_variable, same_role}
use Rattle.sieve_table.specs.Table.{Row, tag_row}
use Rattle.sieve_table.specs.contracts.row.Form.{the_type}
use Rattle.sieve_table.specs.declared.row.Form.{Form}
use Rattle.sieve_table.specs.declared.row.Form.TheVariants as form
use Rattle.sieve_table.specs.declared.row.Role.{Role}
use Rattle.sieve_table.specs.declared.row.Role.TheVariants as role
use Rattle.sieve_table.specs.declared.row.Slot.{Slot}
use Rattle.sieve_table.specs.declared.table.CommandKind.{CommandKind}
use Rattle.sieve_table.specs.declared.table.CommandKind.TheVariants as command
use Rattle.sieve_table.specs.declared.table.TestKind.{TestKind}
use Rattle.sieve_table.specs.declared.table.TestKind.TheVariants as test

-- The sort of an argument, as it is read. It is strings, one string, one that stands for itself,
-- names of variables, one such name, or a number.
pub data Sort : Type 0 where
  texts : Sort
  one_text : Sort
  one_literal : Sort
  variables : Sort
  one_variable : Sort
  one_number : Sort

-- whether it is there: always, or it may be left out
pub data Presence : Type 0 where
  always : Presence
  perhaps : Presence

-- an argument in a role
pub record Asked : Type 0 where
  pub sort : Sort
  pub role : Role
  pub presence : Presence

abbrev pub must : Sort → Role → Asked
must sort role = record { sort = sort; role = role; presence = always }

abbrev pub may : Sort → Role → Asked
may sort role = record { sort = sort; role = role; presence = perhaps }

-- a test that compares values with keys
abbrev pub comparing : List Asked
comparing = must texts role.Keys ∷ may one_literal role.ComparatorName ∷ may one_literal role.Relation ∷ []

abbrev pub asked_by_test : TestKind → List Asked
asked_by_test test.Header = must texts role.FieldNames ∷ comparing
asked_by_test test.Address = must texts role.AddressFields ∷ comparing
asked_by_test test.Envelope = must texts role.EnvelopeParts ∷ comparing
asked_by_test test.Exists = must texts role.FieldNames ∷ []
asked_by_test test.Size = must one_number role.Limit ∷ []
asked_by_test test.AllOf = []
asked_by_test test.AnyOf = []
asked_by_test test.Not = []
asked_by_test test.True = []
asked_by_test test.False = []
asked_by_test test.String = must texts role.Text ∷ comparing
asked_by_test test.HasFlag = may variables role.NamesToRead ∷ comparing
asked_by_test test.MailboxExists = must texts role.Mailbox ∷ []
-- no argument of `duplicate` is asked for, since a bench has seen no message before
-- (RFC 7352, section 3)
asked_by_test test.Duplicate = []
asked_by_test test.Date = must one_text role.FieldNames ∷ must one_text role.DatePart ∷ may one_text role.Zone ∷ comparing
asked_by_test test.CurrentDate = must one_text role.DatePart ∷ may one_text role.Zone ∷ comparing
asked_by_test test.Body = may texts role.ContentTypes ∷ comparing

-- a command that changes flags
abbrev pub changing_flags : List Asked
changing_flags = may one_variable role.NameToSet ∷ must texts role.Flags ∷ []

abbrev pub asked_by_command : CommandKind → List Asked
asked_by_command command.Require = []
asked_by_command command.If = []
asked_by_command command.Elsif = []
asked_by_command command.Else = []
asked_by_command command.Keep = may texts role.Flags ∷ []
asked_by_command command.Fileinto = must one_text role.Mailbox ∷ may texts role.Flags ∷ may one_text role.Text ∷ []
asked_by_command command.Redirect = must one_text role.Address ∷ []
asked_by_command command.Discard = []
asked_by_command command.Stop = []
asked_by_command command.Set = must one_variable role.NameToSet ∷ must one_text role.Text ∷ []
asked_by_command command.SetFlag = changing_flags
asked_by_command command.AddFlag = changing_flags
asked_by_command command.RemoveFlag = changing_flags
asked_by_command command.Include = must one_literal role.ScriptName ∷ []
asked_by_command command.Return = []
asked_by_command command.Global = []
asked_by_command command.Vacation = must one_text role.Text ∷ may one_number role.Days ∷ may one_text role.Subject ∷ may one_text role.Sender ∷ may texts role.OwnAddresses ∷ may one_text role.Handle ∷ []
asked_by_command command.Reject = must one_text role.Text ∷ []
asked_by_command command.Ereject = must one_text role.Text ∷ []

-- THE ROW

-- the form in which an argument of that sort is written
abbrev pub form_of : Sort → Form
form_of texts = form.List
form_of one_text = form.One
form_of one_literal = form.One
form_of variables = form.List
form_of one_variable = form.One
form_of one_number = form.Number

-- whether the strings of a role are cut as such a reading needs them
abbrev pub is_cut_so : Sort → Role → Bool
is_cut_so texts role = is_expanded role && not (names_variable (Some role))
is_cut_so one_text role = is_expanded role && not (names_variable (Some role))
is_cut_so one_literal role = not (is_expanded role) && not (names_variable (Some role))
is_cut_so variables role = names_variable (Some role)
is_cut_so one_variable role = names_variable (Some role)
is_cut_so one_number role = true

abbrev pub given_slot : Option Slot → List Slot
given_slot None = []
given_slot (Some slot) = slot ∷ []

-- all slots of a row: the one in front, the positional ones, and those that its tags take
abbrev pub slots_of_row : Row → List Slot
slots_of_row row = given_slot row.front ++ (row.slots ++ flat_map (λ t. given_slot (tag_row t).takes) row.tags)

abbrev pub is_in_role : Role → Slot → Bool
is_in_role role slot = same_role role slot.role

-- there is exactly one slot, and that one is of the form
abbrev pub is_one : Form → List Slot → Bool
is_one wanted [] = false
is_one wanted (slot ∷ []) = sameb the_type slot.form wanted
is_one wanted (slot ∷ other ∷ slots) = false

-- there are some slots, and each is of the form
abbrev pub are_all : Form → List Slot → Bool
are_all wanted [] = false
are_all wanted (slot ∷ slots) = list_all (λ s. sameb the_type s.form wanted) (slot ∷ slots)

-- An argument that is always there has exactly one slot of its role in the row, of that form. It is
-- among `slots`, so it can't be left out. One that may be left out has one slot or more of its
-- role, each of that form. None is among `slots`: each is in front, or taken by a tag. The
-- definition doesn't say that at most one of these is given.
abbrev pub gives_slot : Row → Role → Form → Presence → Bool
gives_slot row role wanted always = is_one wanted (filter (is_in_role role) (slots_of_row row)) && list_any (is_in_role role) row.slots
gives_slot row role wanted perhaps = are_all wanted (filter (is_in_role role) (slots_of_row row)) && not (list_any (is_in_role role) row.slots)

-- a row gives the argument that is asked for
abbrev pub gives : Row → Asked → Bool
gives row asked = gives_slot row asked.role (form_of asked.sort) asked.presence && is_cut_so asked.sort asked.role

abbrev pub gives_all : Row → List Asked → Bool
gives_all row asked = list_all (gives row) asked

-- ARGUMENTS THAT ARE READ ALIKE

-- two arguments, there or not, that are read as the same
abbrev pub ReadsSame : Sort → Presence → (argument other : Option CutArgument) → Type 0
ReadsSame texts always argument other = texts_in argument ≡ texts_in other
ReadsSame texts perhaps argument other = given_texts argument ≡ given_texts other
ReadsSame one_text always argument other = text_in argument ≡ text_in other
ReadsSame one_text perhaps argument other = given_text argument ≡ given_text other
ReadsSame one_literal presence argument other = literal_in argument ≡ literal_in other
ReadsSame variables presence argument other = given_texts argument ≡ given_texts other
ReadsSame one_variable always argument other = variable_in argument ≡ variable_in other
ReadsSame one_variable perhaps argument other = given_variable argument ≡ given_variable other
ReadsSame one_number always argument other = number_in argument ≡ number_in other
ReadsSame one_number perhaps argument other = given_number argument ≡ given_number other

abbrev pub AreAlike : List Asked → (labels others : List Label) → (args arguments : List CutArgument) → Type 0
AreAlike [] labels others args arguments = Unit {0}
AreAlike (asked ∷ rest) labels others args arguments = ReadsSame asked.sort asked.presence (in_role asked.role labels args) (in_role asked.role others arguments) × AreAlike rest labels others args arguments
