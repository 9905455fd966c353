use Rattle.std.proofs.Common.{◌∙◌, arith}
use Rattle.session_text.proofs.Words.{line_words-drop}
use Rattle.session_text.proofs.cutting.leading_spaces.Goals as goal

pub loop-i-preserved : goal.loop-i-preserved
loop-i-preserved c = line_words-drop c.args.line.now c.loop-i.i (omega arith) c.if-octet-ne32.false ∙ c.loop-i.invariant
