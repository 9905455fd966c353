use Rattle.bench.proofs.Lines.{names_at}
use Rattle.bench.proofs.Writing.{goes_on_from, stops}
use Rattle.bench.proofs.profile_line.write_extensions.Goals as goal

pub loop-extension-preserved : goal.loop-extension-preserved
loop-extension-preserved g c =
    goes_on_from _ _ _ _ _ _ _ _ _ c.loop-extension.invariant (names_at c.args.profile c.args.extensions.now c.loop-extension.extension-index _ c.loop-extension-test.true) c.in_ok-write_extension.ensures

pub returns-in_err-write_extension : goal.returns-in_err-write_extension
returns-in_err-write_extension g c =
    stops _ _ _ c.from_residual.ensures.0 _ _ _ _ _ _ _ c.loop-extension.invariant (names_at c.args.profile c.args.extensions.now c.loop-extension.extension-index _ c.loop-extension-test.true) c.in_err-write_extension.ensures
