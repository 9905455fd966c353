use Rattle.std.proofs.Common.{sym, ◌∙◌}
use Rattle.sieve_profile.specs.Extension.{extensions}
use Rattle.bench.proofs.Lines.{line_of_none, line_of_some}
use Rattle.bench.proofs.profile_line.write_profile.Goals as goal

pub returns-then-has_any : goal.returns-then-has_any
returns-then-has_any g c = rw (line_of_some c.args.profile extensions (sym c.has_any.ensures ∙ c.if-has_any.true)) c.write_names.ensures

pub returns-else-has_any : goal.returns-else-has_any
returns-else-has_any g c = rw (line_of_none c.args.profile extensions (sym c.has_any.ensures ∙ c.if-has_any.false)) c.write_out.ensures
