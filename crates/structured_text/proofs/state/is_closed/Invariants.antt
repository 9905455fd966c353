use Rattle.std.proofs.Common.{◌≡◌, ◌≤◌, drop}
use Rattle.structured_text.specs.Structure.{depth_of, is_closed}
use Rattle.structured_text.specs.declared.state.LexerState.TheVariants.{Outside}
use Rattle.structured_text.proofs.state.is_closed.Given as goal

-- No more comments are open than octets were read. The rest decides whether all is closed.
abbrev pub invariant-loop-octet : goal.invariant-loop-octet
invariant-loop-octet l = record {
  depth : depth_of l.state ≤ l.octet-index;
  same : is_closed l.brackets l.state (drop l.octet-index l.text) ≡ is_closed l.brackets Outside l.text;
}
