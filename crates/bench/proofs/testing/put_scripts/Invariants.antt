use Rattle.std.proofs.Common.{◌≡◌, drop, map}
use Rattle.bench.specs.Test.{after_all, put_of}
use Rattle.bench.proofs.testing.put_scripts.Given as goal

-- the result of the scripts that are left is that of all of them on the bench before
abbrev pub invariant-loop-script : goal.invariant-loop-script
invariant-loop-script l = after_all l.bench.content (map put_of (drop l.script-index l.scripts)) ≡ after_all l.initial.bench.content (map put_of l.scripts)
