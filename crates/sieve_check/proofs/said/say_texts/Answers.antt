use Rattle.std.proofs.Common.{◌+◌, ◌<◌, ◌≤◌, ◌∷◌, length, rules, List, map, drop, refl, sym, ap}
use Rattle.sieve_syntax.specs.Tree.{Text}
use Rattle.sieve_syntax.specs.declared.tree.Text as texts
use Rattle.sieve_syntax.specs.view.Tree.{text_of}
use Rattle.sieve_check.specs.Said.{said_text}
use Rattle.sieve_table.specs.view.Required.{required_as}
use Rattle.sieve_check.proofs.InPlace.{left_after, whole_end, whole_more}
use Rattle.sieve_check.proofs.said.say_texts.Goals as goal

pub loop-i-preserved : goal.loop-i-preserved
loop-i-preserved c =
    let now = c.loop-i.texts.items in let old = c.args.texts.now.items in let i = c.loop-i.i in
    let below : i < length old = search rules in
    let made : List texts.Text → List Text = λ l. map (said_text (required_as c.args.required) c.args.role) (map text_of l) in record {
      said = whole_more text_of made made now old i c.index_mut.result.now c.say_text.new.text _ below c.index_mut.ensures.value c.loop-i.invariant.left (ap (λ t. t ∷ made (drop (i + 1) old)) (sym c.in_ok-say_text.ensures)) c.loop-i.invariant.said;
      left = left_after now old i c.say_text.new.text c.loop-i.invariant.left;
    }

pub returns : goal.returns
returns c =
    let ended : length c.args.texts.now.items ≤ c.loop-i.i = search rules in
    whole_end text_of (λ l. map (said_text (required_as c.args.required) c.args.role) (map text_of l)) c.loop-i.texts.items c.args.texts.now.items c.loop-i.i _ ended c.loop-i.invariant.left refl c.loop-i.invariant.said
