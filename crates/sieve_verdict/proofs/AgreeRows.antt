-- Worked rows of texts about a verdict without lines. No run has such a verdict.
use Rattle.std.proofs.Common.{◌≡◌, false, [], None, refl, codes}
use Rattle.sieve_verdict.specs.Lines.{agrees}
use Rattle.sieve_verdict.specs.Verdict.{Verdict}

abbrev no_lines : Verdict
no_lines = record { entries = []; implicit = None; error = None; lookups = [] }

-- the empty text doesn't agree with this verdict, and a lone LF is one line too many for it
nothing_row : agrees [] no_lines [] ≡ false
unfolding agrees
nothing_row = refl

lone_lf_row : agrees [] no_lines (codes "\n") ≡ false
unfolding agrees
lone_lf_row = refl
