use Rattle.std.proofs.Common.{ap}
use Rattle.sieve_script.specs.Given.{tag_at}
use Rattle.sieve_script.specs.view.Tags.{tags_as}
use Rattle.sieve_script.proofs.ByKind.{no_tag}
use Rattle.sieve_script.proofs.tags.Tags.with_label.Goals as goal

pub returns-in-OtherTag : goal.returns-in-OtherTag
returns-in-OtherTag c = no_tag (tags_as c.args.self) c.args.label (λ k. ap (tag_at k) c.in-OtherTag.is)

pub returns-in-Own : goal.returns-in-Own
returns-in-Own c = no_tag (tags_as c.args.self) c.args.label (λ k. ap (tag_at k) c.in-Own.is)

pub returns-in-InSlot : goal.returns-in-InSlot
returns-in-InSlot c = no_tag (tags_as c.args.self) c.args.label (λ k. ap (tag_at k) c.in-InSlot.is)

pub returns-in-Unfit : goal.returns-in-Unfit
returns-in-Unfit c = no_tag (tags_as c.args.self) c.args.label (λ k. ap (tag_at k) c.in-Unfit.is)
