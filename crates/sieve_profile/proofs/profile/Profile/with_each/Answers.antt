use Rattle.std.proofs.Common.{◌+◌, true, false, ap, sym, ◌∙◌, filter, drop}
use Rattle.sieve_profile.specs.Extension.{asks_for, extensions}
use Rattle.sieve_profile.specs.Profile.{Profile, with_each}
use Rattle.sieve_profile.specs.declared.extension.Extension.TheVariants.{Body}
use Rattle.sieve_profile.specs.view.Profile.{profile_as}
use Rattle.sieve_profile.proofs.Asked.{turn}
use Rattle.sieve_profile.proofs.profile.Profile.with_each.Goals as goal
use Rattle.sieve_profile.proofs.profile.Profile.with_each.Goals.{then-asks_for, else-asks_for}

pub loop-extension-preserved : goal.loop-extension-preserved
loop-extension-preserved c =
    let test = asks_for c.args.name.now in
    let next = turn test extensions (profile_as c.loop-extension.profile) c.loop-extension.extension-index Body in
    elim c.if-asks_for.branch [
      | then-asks_for w ↦
          ap (λ (p : Profile). with_each p (filter test (drop (c.loop-extension.extension-index + 1) extensions))) (ap profile_as w.profile-is ∙ w.with-profile.ensures)
          ∙ next true c.loop-extension-test.true (sym w.if-asks_for.true ∙ c.asks_for.ensures) ∙ c.loop-extension.invariant
      | else-asks_for w ↦
          ap (λ (p : Profile). with_each p (filter test (drop (c.loop-extension.extension-index + 1) extensions))) (ap profile_as w.profile-is)
          ∙ next false c.loop-extension-test.true (sym w.if-asks_for.false ∙ c.asks_for.ensures) ∙ c.loop-extension.invariant
    ]
