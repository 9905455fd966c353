use Rattle.std.proofs.Common.{ap}
use Rattle.sieve_script.specs.Given.{first_or, tag_given}
use Rattle.sieve_script.proofs.tags.Tags.among.Goals as goal

pub loop-label-init : goal.loop-label-init
loop-label-init c = λ k. ap (λ tags. first_or (tags k) (tag_given k c.args.labels.now)) c.none-tags.ensures
