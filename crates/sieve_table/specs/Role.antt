-- The roles of arguments: whether two are the same, and how their strings are read.
use Rattle.std.specs.Prelude.{Bool, true, false, ◌||◌, Option, Some, None}
use denote.Enum.Bare.{sameb}
use Rattle.sieve_table.specs.contracts.row.Role.{the_type}
use Rattle.sieve_table.specs.declared.row.Role.{Role}
use Rattle.sieve_table.specs.declared.row.Role.TheVariants as role

abbrev pub same_role : Role → Role → Bool
same_role a b = sameb the_type a b

-- whether a role is given, and is the wanted one
abbrev pub has_role : Role → Option Role → Bool
has_role wanted None = false
has_role wanted (Some role) = same_role wanted role

-- The roles of strings that name variables to set or to read. A command names one that it
-- sets (RFC 5229, section 4; RFC 5232, section 3). A test names some that it reads
-- (RFC 5232, section 4).
abbrev pub names_variable : Option Role → Bool
names_variable given = has_role role.NameToSet given || has_role role.NamesToRead given

-- The roles of strings in which references to variables stand for values (RFC 5229, section 3). The
-- name of a `set` is left out (RFC 5229, section 4). So are the names of scripts, and those that
-- are declared (RFC 6609, 3.2 and 3.4.1). This project also leaves out strings that are known
-- before the script runs. They are those of `require`, comparators, relations, and the names that
-- flag commands and flag tests have. It leaves out the arguments of `duplicate`'s tags too: no run
-- looks at them, and no report says them. A report says the handle of a response.
abbrev pub is_expanded : Role → Bool
is_expanded role.Capabilities = false
is_expanded role.ComparatorName = false
is_expanded role.FieldNames = true
is_expanded role.AddressFields = true
is_expanded role.EnvelopeParts = true
is_expanded role.Keys = true
is_expanded role.Limit = false
is_expanded role.Mailbox = true
is_expanded role.Address = true
is_expanded role.Flags = true
is_expanded role.NameToSet = false
is_expanded role.NamesToRead = false
is_expanded role.NamesToDeclare = false
is_expanded role.ScriptName = false
is_expanded role.Relation = false
is_expanded role.Tracking = false
is_expanded role.Days = false
is_expanded role.Subject = true
is_expanded role.Sender = true
is_expanded role.OwnAddresses = true
is_expanded role.Handle = true
is_expanded role.Zone = true
is_expanded role.DatePart = true
is_expanded role.ContentTypes = true
is_expanded role.Text = true
