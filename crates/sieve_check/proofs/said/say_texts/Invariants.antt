use Rattle.std.proofs.Common.{◌≡◌, ◌++◌, drop, map, take}
use Rattle.sieve_check.specs.Said.{said_text}
use Rattle.sieve_syntax.specs.view.Tree.{text_of}
use Rattle.sieve_table.specs.view.Required.{required_as}
use Rattle.sieve_check.proofs.InPlace.{IsLeft}
use Rattle.sieve_check.proofs.said.say_texts.Given as goal

-- The first strings have the octets that they say. With the others, made so, they are all strings
-- made so. The others are as they were.
abbrev pub invariant-loop-i : goal.invariant-loop-i
invariant-loop-i l = record {
  said : map (said_text (required_as l.required) l.role) (map text_of l.initial.texts.items) ≡ map text_of (take l.i l.texts.items) ++ map (said_text (required_as l.required) l.role) (map text_of (drop l.i l.initial.texts.items));
  left : IsLeft l.i l.texts.items l.initial.texts.items;
}
