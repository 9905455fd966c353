-- The addresses of a value (RFC 5322, 3.4 and 4.4) and of an envelope. Their parts are those of a
-- test (RFC 5228, 2.7.4; RFC 5233, section 4). Each octet of a value is marked with the construct
-- in which it stands. Steps over marked octets come after that.
use Rattle.std.specs.Prelude.{◌≡◌, ℕ, ◌+◌, ◌-◌, ◌<◌, nat_le, nat_eq, Bool, true, false, not, ◌&&◌, ◌||◌, ◌==◌, if◌then◌else◌, length, List, [], ◌∷◌, ◌++◌, map, filter, Option, None, Some, codes}
use Rattle.std.specs.List.{after_first, after_last, before_first, before_last, filter_map, list_any, slice_split}
use Rattle.std.specs.Option.{option_and_then, option_map}
use lib.Pointwise.{pointwise}
use Rattle.octets.specs.Octet.{is_white, octet_of}
use Rattle.message_text.specs.declared.addressing.AddressPart.{AddressPart}
use Rattle.message_text.specs.declared.addressing.AddressPart.TheVariants as part
use Rattle.structured_text.specs.Structure.{after_octet, all_brackets}
use Rattle.structured_text.specs.declared.state.LexerState.{LexerState}
use Rattle.structured_text.specs.declared.state.LexerState.TheVariants.{EscapedInComment, EscapedInLiteral, EscapedInString, InComment, InLiteral, InString, Outside}
use Rattle.message_text.specs.declared.marks.AddressMark.{AddressMark}
use Rattle.message_text.specs.declared.marks.AddressMark.TheVariants as mark
use Rattle.message_text.specs.declared.marks.Marked.{Marked}
use Rattle.message_text.specs.declared.marks.Surroundings.{Surroundings}

-- an address: its whole text, and its local part and its domain if it has them (RFC 5322, 3.4.1)
pub record AddrSpec : Type 0 where
  pub all : List ℕ
  pub local_part : Option (List ℕ)
  pub domain : Option (List ℕ)

-- the octet between user and detail
abbrev pub is_separator : ℕ → Bool
is_separator octet = octet == octet_of "+"

-- the user in a local part: the octets before its first separator, or all (RFC 5233, section 4)
abbrev pub user_in : List ℕ → List ℕ
user_in local_part = before_first is_separator local_part

-- The detail in a local part: the octets after its first separator, if it has one (RFC 5233,
-- section 4).
abbrev pub detail_in : List ℕ → Option (List ℕ)
detail_in local_part = if list_any is_separator local_part then Some (after_first is_separator local_part) else None

-- the part of an address that a test sees (RFC 5228, 2.7.4; RFC 5233, section 4)
abbrev pub part_of_address : AddressPart → AddrSpec → Option (List ℕ)
part_of_address part.All address = Some address.all
part_of_address part.Local address = address.local_part
part_of_address part.Domain address = address.domain
part_of_address part.User address = option_map user_in address.local_part
part_of_address part.Detail address = option_and_then detail_in address.local_part

-- MARKS

-- The state at the start of a value, with nothing open. A construct that is opened and not closed
-- lasts to the end of the value.
abbrev pub value_start : Surroundings
value_start = record { state = Outside; in_angle = false }

-- An octet outside of quoted strings, comments and literals may open one of these or an angle. It
-- may close the angle, or stand for itself. In an angle no other opens.
abbrev pub free_mark : (in_angle : Bool) → ℕ → AddressMark
free_mark in_angle b =
    if b == octet_of "\"" then mark.QuoteSign else
    if b == octet_of "(" then mark.Comment else
    if b == octet_of "[" then mark.Literal else
    if b == octet_of "<" && not in_angle then mark.AngleOpen else
    if b == octet_of ">" && in_angle then mark.AngleClose else mark.Plain

-- An octet in a quoted string (RFC 5322, 3.2.4). The sign that closes it, and a backslash that
-- protects the next octet, are signs. All others stand for themselves, a backslash at the end of
-- the value too.
abbrev pub quoted_mark : (is_last : Bool) → ℕ → AddressMark
quoted_mark is_last b = if b == octet_of "\"" || (b == octet_of "\\" && not is_last) then mark.QuoteSign else mark.Quoted

-- the mark of an octet by the construct that is open before it
abbrev pub mark_in : LexerState → (in_angle is_last : Bool) → ℕ → AddressMark
mark_in Outside in_angle is_last b = free_mark in_angle b
mark_in InString in_angle is_last b = quoted_mark is_last b
mark_in EscapedInString in_angle is_last b = mark.Quoted
mark_in (InComment others) in_angle is_last b = mark.Comment
mark_in (EscapedInComment others) in_angle is_last b = mark.Comment
mark_in InLiteral in_angle is_last b = mark.Literal
mark_in EscapedInLiteral in_angle is_last b = mark.Literal

-- the mark of an octet in a state
abbrev pub mark_at : Surroundings → (is_last : Bool) → ℕ → AddressMark
mark_at spot is_last b = mark_in spot.state spot.in_angle is_last b

-- Whether an angle is open after an octet. An octet in a quoted string, a comment or a literal
-- opens and closes none.
abbrev pub angle_after : LexerState → (in_angle : Bool) → ℕ → Bool
angle_after Outside in_angle b = if b == octet_of "<" then true else if b == octet_of ">" then false else in_angle
angle_after other in_angle b = in_angle

-- the whole state after an octet
abbrev pub surroundings_after : Surroundings → ℕ → Surroundings
surroundings_after spot b = record {
  state = after_octet all_brackets spot.state b;
  in_angle = angle_after spot.state spot.in_angle b;
}

-- the octets from some place on, each with its mark
unfoldable pub marks_from : Surroundings → List ℕ → List Marked
marks_from spot [] = []
marks_from spot (b ∷ rest) = record { octet = b; mark = mark_at spot (length rest == 0) b; in_angle = spot.in_angle } ∷ marks_from (surroundings_after spot b) rest

-- the octets of a value, each with its mark
abbrev pub marks_of : List ℕ → List Marked
marks_of value = marks_from value_start value

-- STEPS

-- neither in a quoted string, a comment or a literal, nor a sign of one or of an angle
abbrev pub is_mark_plain : AddressMark → Bool
is_mark_plain mark.Plain = true
is_mark_plain other = false

-- Whether a marked octet is this one and free. A free octet is outside of quoted strings, comments
-- and literals, and no sign of these or of an angle.
abbrev pub is_free : ℕ → Marked → Bool
is_free b m = is_mark_plain m.mark && m.octet == b

-- whether a marked octet is this one, free and outside of an angle too
abbrev pub is_bare : ℕ → Marked → Bool
is_bare b m = is_free b m && not m.in_angle

-- a comma or a semicolon ends an address, a semicolon also a group (RFC 5322, 3.4)
abbrev pub separates : Marked → Bool
separates m = is_bare (octet_of ",") m || is_bare (octet_of ";") m

-- a piece without the name of a group, which a colon ends (RFC 5322, 3.4)
abbrev pub without_group : List Marked → List Marked
without_group piece = after_last (is_bare (octet_of ":")) piece

-- not in a comment, nor one of its signs
abbrev pub is_uncommented : AddressMark → Bool
is_uncommented mark.Comment = false
is_uncommented other = true

abbrev pub without_comments : List Marked → List Marked
without_comments piece = filter (λ m. is_uncommented m.mark) piece

abbrev pub opens_angle : AddressMark → Bool
opens_angle mark.AngleOpen = true
opens_angle other = false

abbrev pub closes_angle : AddressMark → Bool
closes_angle mark.AngleClose = true
closes_angle other = false

abbrev pub is_quoted : AddressMark → Bool
is_quoted mark.Quoted = true
is_quoted other = false

-- white space outside of quoted strings (RFC 5322, 3.2.2)
abbrev pub is_gap : Marked → Bool
is_gap m = is_white m.octet && not (is_quoted m.mark)

-- the first octet after such white space is a free `@`
abbrev pub begins_route : List Marked → Bool
begins_route [] = false
begins_route (m ∷ ms) = if is_gap m then begins_route ms else is_free (octet_of "@") m

-- The octets in angle brackets, without a source route. A route begins with `@` and ends with a
-- colon, and without the colon there is none (RFC 5322, 4.4).
abbrev pub without_route : List Marked → List Marked
without_route inside = if begins_route inside && list_any (is_free (octet_of ":")) inside then after_first (is_free (octet_of ":")) inside else inside

-- the inside of the first angle, without its source route, or a piece without angles (RFC 5322,
-- 3.4)
abbrev pub in_first_angle : List Marked → List Marked
in_first_angle piece =
    if list_any (λ m. opens_angle m.mark) piece
    then without_route (before_first (λ m. closes_angle m.mark) (after_first (λ m. opens_angle m.mark) piece))
    else piece

abbrev pub is_sign : AddressMark → Bool
is_sign mark.QuoteSign = true
is_sign other = false

-- Neither white space outside of quoted strings nor a sign of one. These are no part of the content
-- (RFC 5322, 3.2.4).
abbrev pub stays : Marked → Bool
stays m = not (is_gap m) && not (is_sign m.mark)

-- the marked octets of the address in a piece
abbrev pub address_marks : List Marked → List Marked
address_marks piece = filter stays (in_first_angle (without_comments (without_group piece)))

abbrev pub octets_of : List Marked → List ℕ
octets_of marked = map (λ m. m.octet) marked

-- an address with a local part and a domain if both have octets, else with neither (RFC 5322,
-- 3.4.1)
abbrev pub divided : (all local_part domain : List ℕ) → AddrSpec
divided all [] domain = record { all = all; local_part = None; domain = None }
divided all (b ∷ bs) [] = record { all = all; local_part = None; domain = None }
divided all (b ∷ bs) (c ∷ cs) = record { all = all; local_part = Some (b ∷ bs); domain = Some (c ∷ cs) }

-- The address of such octets, if there are any. The last free `@` stands between local part and
-- domain (RFC 5322, 3.4.1).
abbrev pub address_by : List Marked → Option AddrSpec
address_by [] = None
address_by (m ∷ ms) = Some (divided (octets_of (m ∷ ms)) (octets_of (before_last (is_free (octet_of "@")) (m ∷ ms))) (octets_of (after_last (is_free (octet_of "@")) (m ∷ ms))))

abbrev pub address_in : List Marked → Option AddrSpec
address_in piece = address_by (address_marks piece)

-- the addresses of a value, in order
unfoldable pub addresses_of : List ℕ → List AddrSpec
addresses_of value = filter_map address_in (slice_split separates (marks_of value))

-- AN ENVELOPE'S ADDRESS

-- no address, or the null path (RFC 5321, 4.5.5)
abbrev pub is_null_path : List ℕ → Bool
is_null_path text = length text == 0 || pointwise nat_eq (codes "<>") text

-- the one address of a text; a text that isn't one address is a whole without parts
abbrev pub the_only : (text : List ℕ) → List AddrSpec → AddrSpec
the_only text [] = record { all = text; local_part = None; domain = None }
the_only text (one ∷ []) = one
the_only text (one ∷ two ∷ more) = record { all = text; local_part = None; domain = None }

-- A part of the address of an envelope (RFC 5228, 5.4). Any part of a null path is the empty
-- string.
unfoldable pub part_of_path : AddressPart → List ℕ → Option (List ℕ)
part_of_path part text = if is_null_path text then Some [] else part_of_address part (the_only text (addresses_of text))

-- LAWS

-- The parts of an address are there both or not at all. Joined by `@` they are the whole, and
-- neither is empty.
abbrev pub PartsJoin : (all : List ℕ) → (local_part domain : Option (List ℕ)) → Type 0
PartsJoin all None None = Unit {0}
PartsJoin all None (Some domain) = ⊥
PartsJoin all (Some local_part) None = ⊥
PartsJoin all (Some local_part) (Some domain) = (all ≡ local_part ++ octet_of "@" ∷ domain) × ((0 < length local_part) × (0 < length domain))

-- An address of a value has octets, and its parts join to it. The null path of an envelope is no
-- such address.
pub record IsAddrSpec (address : AddrSpec) : Type 0 where
  pub filled : 0 < length address.all
  pub parts : PartsJoin address.all address.local_part address.domain

-- A local part without a detail is its user. With one, it is user and detail with a separator
-- between them. No separator stands in a user.
abbrev pub UserJoins : (local_part user : List ℕ) → (detail : Option (List ℕ)) → Type 0
UserJoins local_part user None = (user ≡ local_part) × (list_any is_separator user ≡ false)
UserJoins local_part user (Some detail) = (local_part ≡ user ++ octet_of "+" ∷ detail) × (list_any is_separator user ≡ false)

-- An address without a local part has neither user nor detail. One with a local part has a user,
-- and user and detail join to it.
abbrev pub SubpartsJoin : (local_part user detail : Option (List ℕ)) → Type 0
SubpartsJoin None None None = Unit {0}
SubpartsJoin None None (Some detail) = ⊥
SubpartsJoin None (Some user) detail = ⊥
SubpartsJoin (Some local_part) None detail = ⊥
SubpartsJoin (Some local_part) (Some user) detail = UserJoins local_part user detail
