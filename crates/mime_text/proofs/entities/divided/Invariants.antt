use Rattle.std.proofs.Common.{◌≡◌, ◌-◌, ◌≤◌, ◌++◌, length, take}
use Rattle.mime_text.specs.Entities.{body_of, header_of}
use Rattle.mime_text.proofs.entities.divided.Given as goal

-- the rest follows a front of the header section
abbrev pub invariant-loop-line : goal.invariant-loop-line
invariant-loop-line l = record {
  within : length l.rest ≤ length l.text;
  split : take (length l.text - length l.rest) l.text ++ l.rest ≡ l.text;
  header : header_of l.text ≡ take (length l.text - length l.rest) l.text ++ header_of l.rest;
  body : body_of l.text ≡ body_of l.rest;
}

abbrev pub decreases-loop-line : goal.decreases-loop-line
decreases-loop-line l = length l.rest
