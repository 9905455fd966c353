use Rattle.std.proofs.Common.{◌≡◌, ◌≤◌, ◌++◌, drop}
use Rattle.mime_text.specs.Marks.{marks_from}
use Rattle.structured_text.specs.Structure.{depth_of, is_closed, strings_too}
use Rattle.structured_text.specs.declared.state.LexerState.TheVariants.{Outside}
use Rattle.mime_text.proofs.marks.marks_of.Given as goal

-- No more comments are open than octets were read. The marks so far and those of the rest are those
-- of the text. The rest decides whether all is closed.
abbrev pub invariant-loop-octet : goal.invariant-loop-octet
invariant-loop-octet l = record {
  depth : depth_of l.spot ≤ l.octet-index;
  marks : l.marks.items ++ marks_from l.spot (drop l.octet-index l.text) ≡ marks_from Outside l.text;
  closed : is_closed strings_too l.spot (drop l.octet-index l.text) ≡ is_closed strings_too Outside l.text;
}
