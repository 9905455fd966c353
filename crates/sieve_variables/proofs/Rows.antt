-- Worked rows of facts that no script without a fault and no output shows. They are about
-- references that are refused, and about the order of names and of variables.
use Rattle.std.specs.Prelude.{◌≡◌, [], ◌∷◌, codes, refl}
use Rattle.octets.specs.Octet.{octet_of}
use Rattle.sieve_variables.specs.Part.{literal, match_part, scoped_part}
use Rattle.text_cut.specs.Scan.{pieces_from}
use Rattle.sieve_variables.specs.Scan.{before_brace, inside_at, parts_of_text}
use Rattle.sieve_variables.specs.Value.{Values, no_values, with_variable}
use Rattle.sieve_variables.specs.Variable.{local_variable, with_name}

far_row : parts_of_text (codes "${123456}") ≡ match_part (octet_of "d") ∷ []
unfolding before_brace inside_at pieces_from
far_row = refl

-- a reference that is refused joins the octets before it, and not those after it
kept_row : parts_of_text (codes "x${a.b}y") ≡ literal (codes "x${a.b}") ∷ literal (codes "y") ∷ []
unfolding before_brace inside_at pieces_from
kept_row = refl

global_number_row : parts_of_text (codes "${global.1}") ≡ literal (codes "${global.1}") ∷ []
unfolding before_brace inside_at pieces_from
global_number_row = refl

number_stays_row : scoped_part (codes "1" ∷ []) (match_part 1) ≡ match_part 1
number_stays_row = refl

-- names are kept once each
new_name_row : with_name (codes "b") (codes "a" ∷ []) ≡ codes "a" ∷ codes "b" ∷ []
new_name_row = refl

name_again_row : with_name (codes "a") (codes "a" ∷ codes "b" ∷ []) ≡ codes "a" ∷ codes "b" ∷ []
name_again_row = refl

-- a variable that is set twice keeps its place, and has the last value
two_variables : Values
two_variables = with_variable (local_variable (codes "name")) (codes "Tim") (with_variable (local_variable (codes "company")) (codes "ACME") (with_variable (local_variable (codes "name")) (codes "Mary") no_values))

set_twice : two_variables.locals ≡ (codes "name", codes "Tim") ∷ (codes "company", codes "ACME") ∷ []
unfolding two_variables
set_twice = refl
