-- Parameters, one by one.
use Rattle.std.proofs.Common.{◌≡◌, ℕ, ◌-◌, ◌<◌, ◌≤◌, Bool, true, false, cond, Bor, List, [], ◌∷◌, length, take, drop, map, get_or, codes, Option, None, Some, refl, sym, ap, ◌∙◌, arith}
use Rattle.std.specs.Option.{option_map}
use Rattle.std.specs.Str.{str_eq_ignore_ascii_case}
use Rattle.std.proofs.lemmas.List.{take_all}
use Rattle.mime_text.specs.ContentType.{NamedParameters, Parameters, named_of, parameter_in, parameter_named, parameters_of, with_parameter}
use Rattle.mime_text.specs.view.ContentTypes.{or_else, over}
use Rattle.mime_text.specs.declared.marks.ValueMark.{ValueMark}

or_else-none : (x : Option (List ℕ)) → or_else x None ≡ x
or_else-none None = refl
or_else-none (Some x) = refl

or_else-three : (x y z : Option (List ℕ)) → or_else (or_else x y) z ≡ or_else x (or_else y z)
or_else-three None y z = refl
or_else-three (Some x) y z = refl

-- the first of a name counts
first_named : (name : List ℕ) (p : List ℕ × List ℕ) (ps : Parameters) → parameter_named name (p ∷ ps) ≡ or_else (parameter_named name (p ∷ [])) (parameter_named name ps)
unfolding parameter_named
first_named name p ps = by_test (str_eq_ignore_ascii_case name p.0)
  where
    by_test : (b : Bool) → cond b (Some p.1) (parameter_named name ps) ≡ or_else (cond b (Some p.1) None) (parameter_named name ps)
    by_test true = refl
    by_test false = refl

pub over-nothing : (k : NamedParameters) → over k (named_of []) ≡ k
unfolding parameter_named
over-nothing k =
    ap (λ (b : Option (List ℕ)). record { boundary = b; charset = or_else k.charset None }) (or_else-none k.boundary)
    ∙ ap (λ (c : Option (List ℕ)). record { boundary = k.boundary; charset = c }) (or_else-none k.charset)

pub over-first : (k : NamedParameters) (p : List ℕ × List ℕ) (ps : Parameters) → over k (named_of (p ∷ ps)) ≡ over (over k (named_of (p ∷ []))) (named_of ps)
over-first k p ps =
    ap (λ (b : Option (List ℕ)). record { boundary = b; charset = or_else k.charset (parameter_named (codes "charset") (p ∷ ps)) })
    (ap (or_else k.boundary) (first_named (codes "boundary") p ps) ∙ sym (or_else-three k.boundary (parameter_named (codes "boundary") (p ∷ [])) (parameter_named (codes "boundary") ps)))
    ∙ ap (λ (c : Option (List ℕ)). record { boundary = or_else (or_else k.boundary (parameter_named (codes "boundary") (p ∷ []))) (parameter_named (codes "boundary") ps); charset = c })
    (ap (or_else k.charset) (first_named (codes "charset") p ps) ∙ sym (or_else-three k.charset (parameter_named (codes "charset") (p ∷ [])) (parameter_named (codes "charset") ps)))

-- the first piece, and the others
pub pieces_first : (ps : List (Bor (List ValueMark))) (d : Bor (List ValueMark)) → 1 ≤ length ps → map (λ (piece : Bor (List ValueMark)). piece.now) ps ≡ (get_or ps 0 d).now ∷ map (λ (piece : Bor (List ValueMark)). piece.now) (take (length ps - 1) (drop 1 ps))
pieces_first [] d some = absurd (omega (arith, some))
pieces_first (p ∷ ps) d some = ap (λ (more : List (Bor (List ValueMark))). p.now ∷ map (λ (piece : Bor (List ValueMark)). piece.now) more) (sym (take_all (length (p ∷ ps) - 1) ps (omega arith)))

module _ (piece : List ValueMark) (more : List (List ValueMark)) where
  pub none_first : {X : Type 0} (f : Parameters → X) → parameter_in piece ≡ None → option_map f (parameters_of (piece ∷ more)) ≡ None
  unfolding parameters_of
  none_first f none = ap (λ p. option_map f (with_parameter p (parameters_of more))) none

  pub some_first : (k : NamedParameters) (p : List ℕ × List ℕ) → parameter_in piece ≡ Some p
      → option_map (λ ps. over k (named_of ps)) (parameters_of (piece ∷ more)) ≡ option_map (λ ps. over (over k (named_of (p ∷ []))) (named_of ps)) (parameters_of more)
  unfolding parameters_of
  some_first k p some = ap (λ p. option_map (λ ps. over k (named_of ps)) (with_parameter p (parameters_of more))) some ∙ by_more (parameters_of more)
    where
      by_more : (ps : Option Parameters) → option_map (λ ps. over k (named_of ps)) (with_parameter (Some p) ps) ≡ option_map (λ ps. over (over k (named_of (p ∷ []))) (named_of ps)) ps
      by_more None = refl
      by_more (Some ps) = ap Some (over-first k p ps)

pub nothing_left : (ps : List (Bor (List ValueMark))) → length ps < 1 → parameters_of (map (λ (piece : Bor (List ValueMark)). piece.now) ps) ≡ Some []
unfolding parameters_of
nothing_left [] none = refl
nothing_left (p ∷ ps) none = absurd (omega (arith, none))
