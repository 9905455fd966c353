use Rattle.std.proofs.Common.{◌∙◌}
use Rattle.sieve_verdict.proofs.Compared.{tells}
use Rattle.sieve_verdict.specs.view.Wanted.{wanted_line}
use Rattle.sieve_verdict.proofs.agreement.is_wanted.Goals as goal

pub returns : goal.returns
returns c =
    c.is_whole.ensures
    ∙ tells c.args.line.now (wanted_line c.args.wanted.now) c.write_wanted.result c.new-written.result c.write_wanted.new.writer c.new-written.ensures.held c.new-written.ensures.faults c.write_wanted.ensures
