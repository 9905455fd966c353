-- Classes of octets (RFC 5228, 8.1).
use Rattle.std.specs.Prelude.{ℕ, Bool, ◌==◌, ◌||◌}
use Rattle.octets.specs.Octet.{octet_of}

-- the unit of a number, `QUANTIFIER` in RFC 5228, section 8.1: `K`, `M` or `G` in either case
abbrev pub is_unit : ℕ → Bool
is_unit octet = octet == octet_of "K" || (octet == octet_of "k" || (octet == octet_of "M" || (octet == octet_of "m" || (octet == octet_of "G" || (octet == octet_of "g")))))
