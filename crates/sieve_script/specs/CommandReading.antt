-- How a command is read, by its arguments and their labels (RFC 5228, sections 3 and 4). Extensions
-- add `set` (RFC 5229, section 4), flags (RFC 5232, sections 3 and 5) and `:copy` (RFC 3894,
-- section 3). They add `include` and `return` (RFC 6609, section 3), `:create` (RFC 5490,
-- section 3.2) and `:specialuse` (RFC 8579, section 4). They add `vacation` (RFC 5230, section 4),
-- `reject` and `ereject` (RFC 5429, section 2).
use Rattle.std.specs.Prelude.{List, Option, Some, None}
use Rattle.script_names.specs.declared.location.Location.{Location}
use Rattle.script_names.specs.declared.location.Location.TheVariants.{Personal, Global}
use Rattle.sieve_script.specs.CutArgument.{CutArgument}
use Rattle.sieve_script.specs.declared.label.Label.{Label}
use Rattle.sieve_script.specs.declared.reading.FlagChange.{FlagChange}
use Rattle.sieve_script.specs.declared.reading.FlagChange.TheVariants as change
use Rattle.sieve_script.specs.declared.reading.Rejection.{Rejection}
use Rattle.sieve_script.specs.declared.reading.Rejection.TheVariants as rejection
use Rattle.sieve_table.specs.declared.row.Role.TheVariants as role
use Rattle.sieve_table.specs.declared.row.TagKind.TheVariants as kind
use Rattle.sieve_table.specs.declared.table.CommandKind.{CommandKind}
use Rattle.sieve_table.specs.declared.table.CommandKind.TheVariants as command
use Rattle.sieve_table.specs.declared.tag.Tag.{Tag}
use Rattle.sieve_table.specs.declared.tag.Tag.TheVariants as tag
use Rattle.sieve_variables.specs.declared.modifier.LetterCase.{LetterCase}
use Rattle.sieve_variables.specs.declared.modifier.LetterCase.TheVariants as letter_case
use Rattle.sieve_variables.specs.declared.modifier.Modifiers.{Modifiers}
use Rattle.sieve_script.specs.Given.{Tags, tags_of, in_role, texts_in, given_texts, text_in, given_text, given_number, variable_in, given_variable, literal_in, has_tag}
use Rattle.sieve_script.specs.Reading.{Settings, Leaf, keep_leaf, fileinto_leaf, redirect_leaf, discard_leaf, set_leaf, flag_leaf, include_leaf, vacation_leaf, reject_leaf, CommandReading, reads_if, reads_elsif, reads_else, reads_stop, reads_return, reads_nothing, reads_act}

-- The settings of a `fileinto`: its flags (RFC 5232, section 5), and `:copy` (RFC 3894, section 3).
-- It may also have `:create` (RFC 5490, section 3.2) and a special use (RFC 8579, section 4).
abbrev pub settings_by : List Label → List CutArgument → Settings
settings_by labels args = record {
  flags = given_texts (in_role role.Flags labels args);
  copy = has_tag kind.Copy (tags_of labels);
  create = has_tag kind.Create (tags_of labels);
  special_use = given_text (in_role role.Text labels args);
}

-- the reading of a `keep` (RFC 5228, section 4.3; RFC 5232, section 5)
abbrev pub keep_by : List Label → List CutArgument → Leaf
keep_by labels args = keep_leaf (given_texts (in_role role.Flags labels args))

-- the reading of a `fileinto` (RFC 5228, section 4.1)
abbrev pub fileinto_by : List Label → List CutArgument → Leaf
fileinto_by labels args = fileinto_leaf (text_in (in_role role.Mailbox labels args)) (settings_by labels args)

-- the reading of a `redirect` (RFC 5228, section 4.2; RFC 3894, section 3)
abbrev pub redirect_by : List Label → List CutArgument → Leaf
redirect_by labels args = redirect_leaf (text_in (in_role role.Address labels args)) (has_tag kind.Copy (tags_of labels))

-- the case of letters that a modifier makes (RFC 5229, section 4.1.3)
abbrev pub case_by : Option Tag → Option LetterCase
case_by (Some tag.Lower) = Some letter_case.Lower
case_by (Some tag.Upper) = Some letter_case.Upper
case_by (Some tag.LowerFirst) = Some letter_case.Lower
case_by (Some tag.UpperFirst) = Some letter_case.Upper
case_by other = None

-- the modifiers of a `set` (RFC 5229, section 4.1)
unfoldable pub modifiers_of : Tags → Modifiers
modifiers_of tags = record {
  letter_case = case_by (tags kind.Case);
  first_letter = case_by (tags kind.FirstLetter);
  quote_wildcard = has_tag kind.QuoteWildcard tags;
  length = has_tag kind.Length tags;
}

-- the reading of a `set` (RFC 5229, section 4)
abbrev pub set_by : List Label → List CutArgument → Leaf
set_by labels args = set_leaf (variable_in (in_role role.NameToSet labels args)) (modifiers_of (tags_of labels)) (text_in (in_role role.Text labels args))

-- the reading of `setflag`, `addflag` and `removeflag` (RFC 5232, section 3)
abbrev pub flags_by : FlagChange → List Label → List CutArgument → Leaf
flags_by how labels args = flag_leaf how (given_variable (in_role role.NameToSet labels args)) (texts_in (in_role role.Flags labels args))

-- the location of a script that is included; the personal one where none is named
-- (RFC 6609, section 3.2)
abbrev pub location_by : Option Tag → Location
location_by (Some tag.Global) = Global
location_by other = Personal

unfoldable pub location_of : Tags → Location
location_of tags = location_by (tags kind.Location)

-- the reading of an `include` (RFC 6609, section 3.2)
abbrev pub include_by : List Label → List CutArgument → Leaf
include_by labels args =
    include_leaf (location_of (tags_of labels)) (has_tag kind.Once (tags_of labels)) (has_tag kind.Optional (tags_of labels)) (literal_in (in_role role.ScriptName labels args))

-- the reading of a `vacation` (RFC 5230, section 4)
abbrev pub vacation_by : List Label → List CutArgument → Leaf
vacation_by labels args = vacation_leaf (record {
  reason = text_in (in_role role.Text labels args);
  days = given_number (in_role role.Days labels args);
  subject = given_text (in_role role.Subject labels args);
  from = given_text (in_role role.Sender labels args);
  addresses = given_texts (in_role role.OwnAddresses labels args);
  mime = has_tag kind.Mime (tags_of labels);
  handle = given_text (in_role role.Handle labels args);
})

-- the reading of `reject` and `ereject` (RFC 5429, sections 2, 2.1 and 2.2)
abbrev pub reject_by : Rejection → List Label → List CutArgument → Leaf
reject_by how labels args = reject_leaf how (text_in (in_role role.Text labels args))

-- the reading of a command of a kind, by its arguments and their labels
abbrev pub command_reading_by : CommandKind → List Label → List CutArgument → CommandReading
command_reading_by command.Require labels args = reads_nothing
command_reading_by command.If labels args = reads_if
command_reading_by command.Elsif labels args = reads_elsif
command_reading_by command.Else labels args = reads_else
command_reading_by command.Keep labels args = reads_act (keep_by labels args)
command_reading_by command.Fileinto labels args = reads_act (fileinto_by labels args)
command_reading_by command.Redirect labels args = reads_act (redirect_by labels args)
command_reading_by command.Discard labels args = reads_act discard_leaf
command_reading_by command.Stop labels args = reads_stop
command_reading_by command.Set labels args = reads_act (set_by labels args)
command_reading_by command.SetFlag labels args = reads_act (flags_by change.Set labels args)
command_reading_by command.AddFlag labels args = reads_act (flags_by change.Add labels args)
command_reading_by command.RemoveFlag labels args = reads_act (flags_by change.Remove labels args)
command_reading_by command.Include labels args = reads_act (include_by labels args)
command_reading_by command.Return labels args = reads_return
command_reading_by command.Global labels args = reads_nothing
command_reading_by command.Vacation labels args = reads_act (vacation_by labels args)
command_reading_by command.Reject labels args = reads_act (reject_by rejection.Reject labels args)
command_reading_by command.Ereject labels args = reads_act (reject_by rejection.Ereject labels args)
