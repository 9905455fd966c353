use Rattle.std.proofs.Common.{◌≡◌, ◌-◌, ◌+◌, ◌<◌, ◌++◌, [], ◌∷◌, Bool, Bor, List, ℕ, map, drop, sym, ap, ◌∙◌, append_assoc, arith}
use Rattle.std.proofs.lemmas.Bool.Decides.{nat_tests}
use Rattle.std.proofs.lemmas.List.{append-nil, map-append}
use Rattle.mime_text.specs.Entities.{Entity, content_of, entities_by, entities_in, entity_of, inner_texts, is_digest_of, shape_of, type_of}
use Rattle.mime_text.specs.view.Entities.{entity_as}
use Rattle.mime_text.proofs.Nesting.{no_text, nothing_deeper, outer_first, text_first}
use Rattle.mime_text.proofs.entities.+push_entities.Goals as goal

pub returns-then-depth-eq0 : goal.returns-then-depth-eq0
returns-then-depth-eq0 n c =
    let done = map entity_as c.args.found.now.items in
    let none : c.args.depth ≡ 0 = grind (arith, nat_tests) in
    sym (append-nil done) ∙ ap (λ (l : List Entity). done ++ l) (sym (ap (λ n. entities_in n c.args.in_digest c.args.text.now) none ∙ nothing_deeper c.args.in_digest c.args.text.now))

pub loop-inner-init : goal.loop-inner-init
loop-inner-init n c =
    let text = c.args.text.now in
    let old = c.args.found.now.items in
    let found = c.in_ok-entity.ensures in
    let shape = shape_of (type_of c.args.in_digest text) in
    let some : 0 < c.args.depth = grind (arith, nat_tests) in
    let items = c.deref-inner-items.result.now in
    let texts : map (λ (t : Bor (List ℕ)). t.now) items ≡ inner_texts shape (content_of text) = ap (map (λ (t : Bor (List ℕ)). t.now)) c.deref-inner-items.ensures.value ∙ found.1.1 in
    let inside : entities_by (entities_in (c.args.depth - 1) c.in_ok-entity.is_digest) (map (λ (t : Bor (List ℕ)). t.now) items) ≡ entities_by (entities_in (c.args.depth - 1) (is_digest_of shape)) (inner_texts shape (content_of text)) =
    ap (λ (d : Bool). entities_by (entities_in (c.args.depth - 1) d) (map (λ (t : Bor (List ℕ)). t.now) items)) found.1.0 ∙ ap (entities_by (entities_in (c.args.depth - 1) (is_digest_of shape))) texts in
    let front : map entity_as c.push.new.self.items ≡ map entity_as old ++ entity_of c.args.in_digest text ∷ [] =
    ap (map entity_as) c.in_ok-push.ensures.items ∙ map-append entity_as old (c.in_ok-entity.entity ∷ []) ∙ ap (λ (e : Entity). map entity_as old ++ e ∷ []) found.0 in
    ap (λ (l : List Entity). l ++ entities_by (entities_in (c.args.depth - 1) c.in_ok-entity.is_digest) (map (λ (t : Bor (List ℕ)). t.now) items)) front
    ∙ append_assoc (map entity_as old) (entity_of c.args.in_digest text ∷ []) (entities_by (entities_in (c.args.depth - 1) c.in_ok-entity.is_digest) (map (λ (t : Bor (List ℕ)). t.now) items))
    ∙ ap (λ (l : List Entity). map entity_as old ++ entity_of c.args.in_digest text ∷ l) inside
    ∙ ap (λ (l : List Entity). map entity_as old ++ l) (sym (outer_first c.args.depth c.args.in_digest text some))

pub loop-inner-preserved : goal.loop-inner-preserved
loop-inner-preserved n c =
    let items = c.deref-inner-items.result.now in
    let i = c.loop-inner.inner-index in
    let of_text = entities_in (c.args.depth - 1) c.in_ok-entity.is_digest in
    let rest = entities_by of_text (map (λ (t : Bor (List ℕ)). t.now) (drop (i + 1) items)) in
    ap (λ (l : List Entity). l ++ rest) c.in_ok-push_entities.ensures
    ∙ append_assoc (map entity_as c.loop-inner.found.items) (of_text _) rest
    ∙ ap (λ (l : List Entity). map entity_as c.loop-inner.found.items ++ l) (sym (text_first of_text items i _ c.loop-inner-test.true))
    ∙ c.loop-inner.invariant

pub returns : goal.returns
returns n c =
    let items = c.deref-inner-items.result.now in
    let done = map entity_as c.loop-inner.found.items in
    let of_text = entities_in (c.args.depth - 1) c.in_ok-entity.is_digest in
    sym (append-nil done)
    ∙ ap (λ (l : List Entity). done ++ l) (sym (no_text of_text items c.loop-inner.inner-index c.loop-inner-test.false))
    ∙ c.loop-inner.invariant
