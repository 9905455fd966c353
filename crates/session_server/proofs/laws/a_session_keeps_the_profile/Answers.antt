use Rattle.std.proofs.Common.{◌≡◌, ◌∙◌, inl, inr, Ok, refl, ap}
use Rattle.bench.specs.Content.{Content, Edit, after}
use Rattle.session_server.specs.Session.{Served, Moved, Moves, unmoved, moved}
use Rattle.session_server.proofs.laws.a_session_keeps_the_profile.Goals as goal

-- no edit changes the profile
abbrev IsKept : Type 0
IsKept = (content : Content) (edit : Edit) (new : Content) → after content edit ≡ Ok new → new.profile ≡ content.profile

one_kept : IsKept → (old new : Served) → Moves old new → new.bench.content.profile ≡ old.bench.content.profile
one_kept kept old new (inl made) = ap (λ (c : Content). c.profile) made.3.0 ∙ kept old.bench.content made.0 made.1 made.2
one_kept kept old new (inr (inl reported)) = ap (λ (c : Content). c.profile) reported.0
one_kept kept old new (inr (inr refused)) = ap (λ (c : Content). c.profile) refused.0

all_kept : IsKept → (old new : Served) → Moved old new → new.bench.content.profile ≡ old.bench.content.profile
all_kept kept old new unmoved = refl
all_kept kept old new (moved mid last before next) = one_kept kept mid last next ∙ all_kept kept old mid before

pub returns : goal.returns
returns c = all_kept c.an_edit_keeps_the_profile.ensures.each
