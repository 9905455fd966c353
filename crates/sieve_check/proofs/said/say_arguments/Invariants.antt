use Rattle.std.proofs.Common.{◌≡◌, ◌++◌, drop, map, take}
use Rattle.sieve_check.specs.Said.{said_arguments}
use Rattle.sieve_syntax.specs.view.Tree.{argument_of}
use Rattle.sieve_table.specs.view.Required.{required_as}
use Rattle.sieve_check.proofs.InPlace.{IsLeft}
use Rattle.sieve_check.proofs.said.say_arguments.Given as goal

-- The first arguments have the octets that they say. With the others, made so by the labels that
-- are left, they are all arguments made so. The others are as they were.
abbrev pub invariant-loop-i : goal.invariant-loop-i
invariant-loop-i l = record {
  said : said_arguments (required_as l.required) l.labels (map argument_of l.initial.args.items) ≡ map argument_of (take l.i l.args.items) ++ said_arguments (required_as l.required) l.labels_left (map argument_of (drop l.i l.initial.args.items));
  left : IsLeft l.i l.args.items l.initial.args.items;
}
