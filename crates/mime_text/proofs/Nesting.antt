-- Entities, one after another.
use Rattle.std.proofs.Common.{◌≡◌, ℕ, zero, suc, ◌+◌, ◌-◌, ◌<◌, ◌≤◌, Bool, Bor, List, [], ◌∷◌, ◌++◌, length, drop, map, get_or, refl, ap, arith}
use Rattle.std.proofs.lemmas.List.{drop_all, drop_more}
use Rattle.mime_text.specs.Entities.{Entity, content_of, entities_by, entities_in, entity_of, inner_texts, is_digest_of, shape_of, type_of}

-- an entity, and those in it
pub outer_first : (depth : ℕ) (in_digest : Bool) (text : List ℕ) → 0 < depth
    → entities_in depth in_digest text ≡ entity_of in_digest text ∷ entities_by (entities_in (depth - 1) (is_digest_of (shape_of (type_of in_digest text)))) (inner_texts (shape_of (type_of in_digest text)) (content_of text))
unfolding entities_in
outer_first zero in_digest text some = absurd (omega (arith, some))
outer_first (suc depth) in_digest text some =
    ap (λ n. entity_of in_digest text ∷ entities_by (entities_in n (is_digest_of (shape_of (type_of in_digest text)))) (inner_texts (shape_of (type_of in_digest text)) (content_of text)))
    (let e : depth ≡ suc depth - 1 = omega arith in e)

module _ (of_text : List ℕ → List Entity) (texts : List (Bor (List ℕ))) (i : ℕ) where
  pub text_first : (d : Bor (List ℕ)) → i < length texts → entities_by of_text (map (λ (t : Bor (List ℕ)). t.now) (drop i texts)) ≡ of_text (get_or texts i d).now ++ entities_by of_text (map (λ (t : Bor (List ℕ)). t.now) (drop (i + 1) texts))
  unfolding entities_by
  text_first d within = ap (λ (ts : List (Bor (List ℕ))). entities_by of_text (map (λ (t : Bor (List ℕ)). t.now) ts)) (drop_more texts i d within)

  pub no_text : length texts ≤ i → entities_by of_text (map (λ (t : Bor (List ℕ)). t.now) (drop i texts)) ≡ []
  unfolding entities_by
  no_text past = ap (λ (ts : List (Bor (List ℕ))). entities_by of_text (map (λ (t : Bor (List ℕ)). t.now) ts)) (drop_all i texts past)

pub nothing_deeper : (in_digest : Bool) (text : List ℕ) → entities_in 0 in_digest text ≡ []
unfolding entities_in
nothing_deeper in_digest text = refl
