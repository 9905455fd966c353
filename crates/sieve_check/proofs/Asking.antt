-- A capability that is asked for by name has that name.
use Rattle.std.proofs.Common.{◌≡◌, Some, ap}
use Rattle.sieve_profile.specs.Extension.{extension_name}
use Rattle.sieve_profile.specs.declared.extension.Extension.{Extension}
use Rattle.sieve_profile.specs.declared.extension.Extension.TheVariants as extension
use Rattle.sieve_table.specs.Capability.{capability_name}
use Rattle.sieve_table.specs.Known.{extension_of}
use Rattle.sieve_table.specs.declared.capability.Capability.{Capability}
use Rattle.sieve_table.specs.declared.capability.Capability.TheVariants as capability

one_of : (a b : Extension) → Some a ≡ Some b → a ≡ b
one_of a b e = cc

pub named_alike : (c : Capability) (name : Extension) → extension_of c ≡ Some name → capability_name c ≡ extension_name name
named_alike capability.Fileinto name is = absurd cc
named_alike capability.Envelope name is = absurd cc
named_alike capability.Variables name is = absurd cc
named_alike capability.Imap4flags name is = absurd cc
named_alike capability.Include name is = absurd cc
named_alike capability.Copy name is = absurd cc
named_alike capability.Subaddress name is = ap extension_name (one_of extension.Subaddress name is)
named_alike capability.Mailbox name is = ap extension_name (one_of extension.Mailbox name is)
named_alike capability.SpecialUse name is = ap extension_name (one_of extension.SpecialUse name is)
named_alike capability.Duplicate name is = ap extension_name (one_of extension.Duplicate name is)
named_alike capability.Relational name is = ap extension_name (one_of extension.Relational name is)
named_alike capability.EncodedCharacter name is = ap extension_name (one_of extension.EncodedCharacter name is)
named_alike capability.Vacation name is = ap extension_name (one_of extension.Vacation name is)
named_alike capability.Reject name is = ap extension_name (one_of extension.Reject name is)
named_alike capability.Ereject name is = ap extension_name (one_of extension.Ereject name is)
named_alike capability.Date name is = ap extension_name (one_of extension.Date name is)
named_alike capability.Body name is = ap extension_name (one_of extension.Body name is)
named_alike capability.OctetComparator name is = absurd cc
named_alike capability.CasemapComparator name is = absurd cc
named_alike capability.NumericComparator name is = ap extension_name (one_of extension.AsciiNumeric name is)
