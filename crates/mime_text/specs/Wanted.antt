-- Which entities an entry of `:content` names (RFC 5173, 5.2).
use Rattle.std.specs.Prelude.{ℕ, Bool, true, false, not, ◌&&◌, ◌==◌, List, Option, None, Some, length, if◌then◌else◌}
use Rattle.std.specs.List.{after_first, before_first, list_any}
use Rattle.octets.specs.Octet.{is_filled, octet_of}
use Rattle.mime_text.specs.ContentType.{ContentType, is_main, is_type}

-- any type, a main type, a type with its subtype, or none
pub data Wanted : Type 0 where
  any_type : Wanted
  of_main : (main : List ℕ) → Wanted
  of_type : (main sub : List ℕ) → Wanted
  no_type : Wanted

abbrev pub is_slash : ℕ → Bool
is_slash octet = octet == octet_of "/"

-- a type and a subtype; nothing where one of them is empty, or the subtype has a slash
abbrev pub of_both : (main sub : List ℕ) → Wanted
of_both main sub = if is_filled main && (is_filled sub && not (list_any is_slash sub)) then of_type main sub else no_type

-- the types that an entry names: an empty one any type, one without a slash a main type
abbrev pub wanted_in : List ℕ → Wanted
wanted_in entry =
    if length entry == 0 then any_type
    else if list_any is_slash entry then of_both (before_first is_slash entry) (after_first is_slash entry)
    else of_main entry

-- Whether an entry names an entity of this type, in any case of letters. An entity without a type
-- is named by the empty entry alone.
abbrev pub is_wanted : Wanted → Option ContentType → Bool
is_wanted any_type type = true
is_wanted (of_main main) None = false
is_wanted (of_main main) (Some type) = is_main main type
is_wanted (of_type main sub) None = false
is_wanted (of_type main sub) (Some type) = is_type main sub type
is_wanted no_type type = false
