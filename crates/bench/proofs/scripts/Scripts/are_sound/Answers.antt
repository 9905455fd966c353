use Rattle.std.proofs.Common.{ap, ◌∙◌}
use Rattle.std.specs.List.{list_all}
use Rattle.sieve_check.specs.Judgement.{judgement_of}
use Rattle.bench.specs.Test.{is_sound}
use Rattle.bench.specs.view.Scripts.{ScriptsState}
use Rattle.bench.proofs.Texts.{sound-texts}
use Rattle.bench.proofs.scripts.Scripts.are_sound.Goals as goal

pub returns : goal.returns
returns c =
    c.are_all_sound.ensures ∙ sound-texts c.self.inside.profile c.self.inside.by_name.entries c.self.invariant
    ∙ ap (λ (s : ScriptsState). list_all (λ e. is_sound (judgement_of s.profile e.1)) s.scripts) c.self.view_is
