-- An edit of one message leaves the others as they are.
use Rattle.std.proofs.Common.{◌≡◌, ℕ, List, [], ◌∷◌, Bool, true, false, if◌then◌else◌, cond, Some, Ok, nat_eq, refl, sym, ap, ◌∙◌}
use Rattle.std.specs.Option.{option_map}
use lib.Pointwise.{pointwise}
use Rattle.bench.specs.Content.{Content, Sample, after, changed, message_at, set_for_one, one_refusal, sample_with}
use Rattle.bench.specs.Stale.{verdict_due, verdict_on}
use Rattle.bench.specs.declared.setting.MessageSetting.{MessageSetting}
use Rattle.bench.proofs.Kept.{accepted}
use Rattle.bench.proofs.Names.{is_id, other_id}

-- another message stays where one is changed
pub others_stay : (id other : List ℕ) (change : Sample → Sample) (messages : List (List ℕ × Sample)) → pointwise nat_eq id other ≡ false → message_at (changed id change messages) other ≡ message_at messages other
others_stay id other change [] apart = refl
others_stay id other change (m ∷ messages) apart = by (pointwise nat_eq id m.0) refl (others_stay id other change messages apart)
  where
    by : (b : Bool) → pointwise nat_eq id m.0 ≡ b → message_at (changed id change messages) other ≡ message_at messages other
        → message_at (if b then (m.0, change m.1) ∷ messages else m ∷ changed id change messages) other ≡ message_at (m ∷ messages) other
    by true is rest =
        let elsewhere : pointwise nat_eq other m.0 ≡ false = rw (← is_id id m.0 is) (other_id id other apart) in
        ap (λ b. cond b (Some (change m.1)) (message_at messages other)) elsewhere ∙ sym (ap (λ b. cond b (Some m.1) (message_at messages other)) elsewhere)
    by false is rest = ap (cond (pointwise nat_eq other m.0) (Some m.1)) rest

pub own_alone : (content : Content) (id other : List ℕ) (setting : MessageSetting) (new : Content) → after content (set_for_one id setting) ≡ Ok new → pointwise nat_eq id other ≡ false → verdict_due new other ≡ verdict_due content other
own_alone content id other setting new made apart =
    ap (λ (c : Content). verdict_due c other) (sym (accepted (one_refusal content.messages id setting) _ new made).1)
    ∙ ap (option_map (verdict_on content)) (others_stay id other (sample_with setting) content.messages apart)
