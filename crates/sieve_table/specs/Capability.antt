-- The capabilities that a script can require (RFC 5228, 2.10.5). Some are known only where a
-- profile asks for them.
use Rattle.std.specs.Prelude.{ℕ, Bool, List, [], ◌∷◌, Option, find, nat_eq, codes}
use Rattle.std.specs.List.{list_any}
use lib.Pointwise.{pointwise}
use denote.Enum.Bare.{sameb}
use Rattle.sieve_profile.specs.Every.{every}
use Rattle.sieve_table.specs.contracts.capability.Capability.{enum, the_type}
use Rattle.sieve_table.specs.declared.capability.Capability.{Capability}
use Rattle.sieve_table.specs.declared.capability.Capability.TheVariants.{Fileinto, Envelope, Variables, Imap4flags, Include, Copy, Subaddress, Mailbox, SpecialUse, Duplicate, Relational, EncodedCharacter, Vacation, Reject, Ereject, Date, Body, OctetComparator, CasemapComparator, NumericComparator}

-- the string that names a capability in a `require` (RFC 5228, 3.2)
abbrev pub capability_name : Capability → List ℕ
-- RFC 5228, sections 4.1 and 5.4
capability_name Fileinto = codes "fileinto"
capability_name Envelope = codes "envelope"
-- RFC 5229, section 2
capability_name Variables = codes "variables"
-- RFC 5232, section 1
capability_name Imap4flags = codes "imap4flags"
-- RFC 6609, section 3.1
capability_name Include = codes "include"
-- RFC 3894, section 2
capability_name Copy = codes "copy"
-- RFC 5233, section 3
capability_name Subaddress = codes "subaddress"
-- RFC 5490, section 3
capability_name Mailbox = codes "mailbox"
-- RFC 8579, section 5
capability_name SpecialUse = codes "special-use"
-- RFC 7352, section 4
capability_name Duplicate = codes "duplicate"
-- RFC 5231, section 2
capability_name Relational = codes "relational"
-- RFC 5228, section 2.4.2.4
capability_name EncodedCharacter = codes "encoded-character"
-- RFC 5230, section 3
capability_name Vacation = codes "vacation"
-- RFC 5429, sections 2.2 and 2.1
capability_name Reject = codes "reject"
capability_name Ereject = codes "ereject"
-- RFC 5260, section 3
capability_name Date = codes "date"
-- RFC 5173, section 3
capability_name Body = codes "body"
-- RFC 5228, section 2.7.3
capability_name OctetComparator = codes "comparator-i;octet"
capability_name CasemapComparator = codes "comparator-i;ascii-casemap"
-- RFC 4790, section 9.1
capability_name NumericComparator = codes "comparator-i;ascii-numeric"

-- all capabilities, in the order in which they are declared
abbrev pub capabilities : List Capability
capabilities = every enum tt

abbrev pub same_capability : Capability → Capability → Bool
same_capability a b = sameb the_type a b

-- whether a capability is a comparator that may be required and need not be (RFC 5228, 2.7.3)
abbrev pub is_always_there : Capability → Bool
is_always_there capability = list_any (same_capability capability) (OctetComparator ∷ CasemapComparator ∷ [])

-- whether a string names this capability, octet for octet
abbrev pub is_name_of : List ℕ → Capability → Bool
is_name_of name capability = pointwise nat_eq (capability_name capability) name

-- the capability that a string names
abbrev pub capability_named : List ℕ → Option Capability
capability_named name = find (is_name_of name) capabilities
