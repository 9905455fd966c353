-- Spaces and tabs around a text.
use Rattle.std.specs.Prelude.{ℕ, ◌-◌, List, length, take, drop}
use Rattle.std.specs.List.{prefix_len, suffix_len}
use Rattle.octets.specs.Octet.{is_blank}

-- the text without the spaces and tabs at its start
abbrev pub trim_start : List ℕ → List ℕ
trim_start xs = drop (prefix_len is_blank xs) xs

-- the text without the spaces and tabs at its end
abbrev pub trim_end : List ℕ → List ℕ
trim_end xs = take (length xs - suffix_len is_blank xs) xs

-- the text without outer spaces and tabs
abbrev pub trim : List ℕ → List ℕ
trim xs = trim_end (trim_start xs)
