use Rattle.std.proofs.Common.{◌≡◌, ◌∙◌, IfOk, ap, map, refl, subst, sym}
use Rattle.sieve_syntax.specs.view.Tree.{argument_of}
use Rattle.sieve_table.specs.Table.{command_row}
use Rattle.sieve_script.specs.Shape.{known_labels}
use Rattle.sieve_check.specs.view.Context.{context_as}
use Rattle.sieve_table.specs.view.Row.{row_as}
use Rattle.sieve_check.proofs.Heads.{kind_placed}
use Rattle.sieve_check.proofs.command_rules.check_kind.Goals as goal

pub returns-clause-labels : goal.returns-clause-labels
returns-clause-labels c =
    subst (λ l. IfOk c.check_use.result (λ labels. labels.items ≡ l))
    (ap (λ r. known_labels (context_as c.args.context).profile r (map argument_of c.deref.result.now)) c.row.ensures ∙ ap (λ a. known_labels (context_as c.args.context).profile (command_row c.args.kind) (map argument_of a)) c.deref.ensures.value)
    c.check_use.ensures.labels

pub returns-clause-found : goal.returns-clause-found
returns-clause-found c =
    kind_placed (context_as c.args.context) c.args.kind c.args.command.now (row_as c.row.result) _ c.deref.result.now c.is_some-ends_by_block.result c.stands_alone.result c.check_use.result
    refl c.row.ensures c.deref.ensures.value c.is_some-ends_by_block.ensures
    (sym c.if-is_misplaced.false ∙ c.is_misplaced.ensures) c.stands_alone.ensures c.check_use.ensures.found
