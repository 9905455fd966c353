-- The commands, tests, tags and capabilities that a bench of a profile knows. One that needs an
-- unknown capability is treated as absent.
use Rattle.std.specs.Prelude.{ℕ, Bool, true, not, ◌&&◌, ◌||◌, List, Option, None, Some, if◌then◌else◌}
use Rattle.std.specs.List.{list_all, list_any}
use Rattle.std.specs.Option.{option_and_then}
use Rattle.sieve_profile.specs.Profile.{Profile, has}
use Rattle.sieve_profile.specs.declared.extension.Extension.{Extension}
use Rattle.sieve_profile.specs.declared.extension.Extension.TheVariants as extension
use Rattle.sieve_table.specs.Capability.{capabilities, is_name_of}
use Rattle.sieve_table.specs.Table.{Row, command_named, command_row, tag_row, test_named, test_row}
use Rattle.sieve_table.specs.declared.capability.Capability.{Capability}
use Rattle.sieve_table.specs.declared.capability.Capability.TheVariants as capability
use Rattle.sieve_table.specs.declared.table.CommandKind.{CommandKind}
use Rattle.sieve_table.specs.declared.tag.Tag.{Tag}
use Rattle.sieve_table.specs.declared.table.TestKind.{TestKind}

-- The extension name that a profile needs for a capability to be known. A capability without one
-- is always known.
abbrev pub extension_of : Capability → Option Extension
extension_of capability.Fileinto = None
extension_of capability.Envelope = None
extension_of capability.Variables = None
extension_of capability.Imap4flags = None
extension_of capability.Include = None
extension_of capability.Copy = None
extension_of capability.Subaddress = Some extension.Subaddress
extension_of capability.Mailbox = Some extension.Mailbox
extension_of capability.SpecialUse = Some extension.SpecialUse
extension_of capability.Duplicate = Some extension.Duplicate
extension_of capability.Relational = Some extension.Relational
extension_of capability.EncodedCharacter = Some extension.EncodedCharacter
extension_of capability.Vacation = Some extension.Vacation
extension_of capability.Reject = Some extension.Reject
extension_of capability.Ereject = Some extension.Ereject
extension_of capability.Date = Some extension.Date
extension_of capability.Body = Some extension.Body
extension_of capability.OctetComparator = None
extension_of capability.CasemapComparator = None
extension_of capability.NumericComparator = Some extension.AsciiNumeric

abbrev pub is_asked_for : Profile → Option Extension → Bool
is_asked_for profile None = true
is_asked_for profile (Some name) = has profile name

abbrev pub is_known : Profile → Capability → Bool
is_known profile capability = is_asked_for profile (extension_of capability)

-- CAPABILITIES THAT ARE REQUIRED

-- whether a string names a capability that the profile knows
abbrev pub names_known : Profile → List ℕ → Bool
names_known profile name = list_any (λ capability. is_name_of name capability && is_known profile capability) capabilities

-- Whether a string names `encoded-character`, whose use no word of a script shows. It brings
-- sequences in strings alone (RFC 5228, 2.4.2.4). So it may not be required where it isn't known.
abbrev pub is_shown_by_no_word : List ℕ → Bool
is_shown_by_no_word name = is_name_of name capability.EncodedCharacter

-- Whether a `require` may name this string. It may name a capability that the profile knows. With
-- `unused` it may name any other string but `encoded-character`. Mail clients require all that they
-- know, used or not.
abbrev pub may_be_required : Profile → List ℕ → Bool
may_be_required profile name = names_known profile name || (has profile extension.Unused && not (is_shown_by_no_word name))

-- COMMANDS, TESTS AND TAGS

-- whether the profile knows each capability that a row needs
abbrev pub is_known_row : Profile → Row → Bool
is_known_row profile row = list_all (is_known profile) row.needs

-- whether the capability that may be needed is known
abbrev pub is_need_known : (Capability → Bool) → Option Capability → Bool
is_need_known known None = true
is_need_known known (Some capability) = known capability

abbrev pub is_known_tag : Profile → Tag → Bool
is_known_tag profile tag = is_need_known (is_known profile) (tag_row tag).needs

abbrev pub only_if : {A : Type 0} → (A → Bool) → A → Option A
only_if passes x = if passes x then Some x else None

-- the command of a name, where the profile knows it
abbrev pub known_command : Profile → List ℕ → Option CommandKind
known_command profile written = option_and_then (only_if (λ kind. is_known_row profile (command_row kind))) (command_named written)

-- the test of a name, where the profile knows it
abbrev pub known_test : Profile → List ℕ → Option TestKind
known_test profile written = option_and_then (only_if (λ kind. is_known_row profile (test_row kind))) (test_named written)

-- a tag, where the profile knows it
abbrev pub known_tag : Profile → Option Tag → Option Tag
known_tag profile tag = option_and_then (only_if (is_known_tag profile)) tag
