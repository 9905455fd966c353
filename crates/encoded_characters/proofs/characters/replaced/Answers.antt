use Rattle.std.proofs.Common.{sym, ◌∙◌}
use Rattle.encoded_characters.proofs.Steps.{unchanged}
use Rattle.encoded_characters.proofs.characters.replaced.Goals as goal

pub returns-then-not-has_sequence-clause-is : goal.returns-then-not-has_sequence-clause-is
returns-then-not-has_sequence-clause-is c = sym (unchanged c.args.text.now (sym c.has_sequence.ensures ∙ c.if-not-has_sequence.true))
