use Rattle.std.proofs.Common.{◌∙◌, ap, is_some}
use Rattle.sieve_script.specs.Given.{has_tag}
use Rattle.sieve_script.proofs.tags.Tags.has.Goals as goal

pub returns : goal.returns
unfolding has_tag
returns c = c.is_some.ensures ∙ ap is_some c.of.ensures
