use Rattle.std.proofs.Common.{◌≡◌, Bool, true, false, Option, None, Some, refl, ap}
use denote.Enum.Bare.{sameb, same_true}
use Rattle.session_text.specs.SessionLine.{line_kind, line_word}
use Rattle.session_text.specs.contracts.line_kind.LineKind.{enum, the_type}
use Rattle.session_text.specs.declared.line_kind.LineKind.{LineKind}
use Rattle.sieve_profile.proofs.Each.{of_each}
use Rattle.session_text.proofs.laws.lines_are_found_by_their_words.Goals as goal

abbrev is_found : LineKind → Option LineKind → Bool
is_found kind None = false
is_found kind (Some other) = sameb the_type other kind

found : (kind : LineKind) (o : Option LineKind) → is_found kind o ≡ true → o ≡ Some kind
found kind None is = absurd (never is)
  where
    never : false ≡ true → ⊥
    never e = cc
found kind (Some other) is = ap Some (same_true the_type tt other kind is)

pub returns-clause-found : goal.returns-clause-found
returns-clause-found c = λ kind. found kind (line_kind (line_word kind)) (of_each enum tt (λ k. is_found k (line_kind (line_word k))) refl kind)
