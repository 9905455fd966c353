use Rattle.std.proofs.Common.{◌+◌, ◌<◌, ◌≤◌, ◌∷◌, length, rules, List, map, drop, refl, sym, ap, ◌∙◌}
use Rattle.sieve_syntax.specs.Tree.{Argument}
use Rattle.sieve_syntax.specs.declared.tree.Argument as arguments
use Rattle.sieve_syntax.specs.view.Tree.{argument_of}
use Rattle.sieve_check.specs.Said.{said_argument, said_arguments}
use Rattle.sieve_script.specs.declared.label.Label.{Label}
use Rattle.sieve_table.specs.view.Required.{required_as}
use Rattle.sieve_check.proofs.InPlace.{left_after, whole_end, whole_more}
use Rattle.sieve_check.proofs.said.say_arguments.Goals as goal

pub loop-i-preserved : goal.loop-i-preserved
loop-i-preserved c =
    let now = c.loop-i.args.items in let old = c.args.args.now.items in let i = c.loop-i.i in
    let below : i < length old = search rules in
    let required = required_as c.args.required in let x = c.index_mut.result.now in let new = c.say_argument.new.argument in
    let made : List Label → List arguments.Argument → List Argument = λ labels l. said_arguments required labels (map argument_of l) in record {
      said = whole_more argument_of (made c.loop-i.labels_left.now) (made c.after_first-labels_left.result.now) now old i x new _ below c.index_mut.ensures.value c.loop-i.invariant.left
          (ap (λ a. a ∷ made (drop 1 c.loop-i.labels_left.now) (drop (i + 1) old)) (sym (c.in_ok-say_argument.ensures ∙ ap (λ role. said_argument required role (argument_of x)) c.first_role.ensures))
          ∙ ap (λ labels. argument_of new ∷ made labels (drop (i + 1) old)) (sym c.after_first-labels_left.ensures))
          c.loop-i.invariant.said;
      left = left_after now old i new c.loop-i.invariant.left;
    }

pub returns : goal.returns
returns c =
    let ended : length c.args.args.now.items ≤ c.loop-i.i = search rules in
    whole_end argument_of (λ l. said_arguments (required_as c.args.required) c.loop-i.labels_left.now (map argument_of l)) c.loop-i.args.items c.args.args.now.items c.loop-i.i _ ended c.loop-i.invariant.left refl c.loop-i.invariant.said
