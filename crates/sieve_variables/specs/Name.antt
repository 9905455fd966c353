-- The names of variables (RFC 5229, section 3).
use Rattle.std.specs.Prelude.{ℕ, Bool, false, ◌&&◌, ◌*◌, ◌+◌, ◌-◌, List, [], ◌∷◌, length, take, drop, min, codes}
use Rattle.std.specs.List.{list_all}
use Rattle.std.specs.Str.{str_eq_ignore_ascii_case, str_to_ascii_lowercase}
use Rattle.sieve_limits.specs.Limits.{match_limit}
use Rattle.octets.specs.Octet.{octet_of, begins_name, is_name_octet, is_digit}

-- an identifier (RFC 5228, 8.1)
abbrev pub is_identifier : List ℕ → Bool
is_identifier [] = false
is_identifier (c ∷ cs) = begins_name c && list_all is_name_octet cs

-- the number of a match variable: digits, the `num-variable` of RFC 5229, section 3
abbrev pub is_number : List ℕ → Bool
is_number [] = false
is_number (c ∷ cs) = is_digit c && list_all is_digit cs

-- the number that digits stand for in base 10, after digits that stand for n
abbrev pub decimal_from : ℕ → List ℕ → ℕ
decimal_from n [] = n
decimal_from n (c ∷ cs) = decimal_from (10 * n + (c - octet_of "0")) cs

-- The number of a match variable, by its decimal value (RFC 5229, 3.2). All numbers past the limit
-- are refused alike, and count as the first of them (RFC 5229, section 6).
abbrev pub index_of : List ℕ → ℕ
index_of digits = min (decimal_from 0 digits) (match_limit + 1)

-- the name in lower case, under which a variable is kept: names ignore the case of ASCII
abbrev pub folded_name : List ℕ → List ℕ
folded_name name = str_to_ascii_lowercase name

-- the namespace of the variables that scripts share, without its dot and with it (RFC 6609, 3.4.2)
abbrev pub global_namespace : List ℕ
global_namespace = codes "global"

abbrev pub global_prefix : List ℕ
global_prefix = codes "global."

-- whether a name is that of a variable that scripts share (RFC 6609, 3.4.2)
abbrev pub is_global_name : List ℕ → Bool
is_global_name name = str_eq_ignore_ascii_case global_prefix (take (length global_prefix) name) && is_identifier (drop (length global_prefix) name)
