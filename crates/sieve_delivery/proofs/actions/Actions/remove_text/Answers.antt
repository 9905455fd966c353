use Rattle.std.proofs.Common.{[], ◌∷◌, ◌∙◌, ap}
use Rattle.flag_lists.specs.Flags.{flags_in, flags_without}
use Rattle.sieve_delivery.proofs.Known.{changed_all, changed_on}
use Rattle.sieve_delivery.proofs.actions.Actions.remove_text.Goals as goal

pub loop-flag-preserved : goal.loop-flag-preserved
loop-flag-preserved c =
    changed_on flags_without c.loop-flag.self c.remove_flag.new.self _ (flags_in c.loop-flag.rest.now) (c.in-Some.flag.now ∷ []) (flags_in c.in-Some.after.now)
    (λ flags. ap (flags_without flags) c.in-Some.ensures.some ∙ c.flags_are_taken_out_in_turn.ensures.more flags (flags_in c.in-Some.after.now) c.in-Some.flag.now)
    c.remove_flag.ensures c.loop-flag.invariant

pub returns : goal.returns
returns c =
    changed_all flags_without c.loop-flag.self _ (flags_in c.loop-flag.rest.now)
    (λ flags. ap (flags_without flags) c.in_default.ensures.none ∙ c.flags_are_taken_out_in_turn.ensures.none flags)
    c.loop-flag.invariant
