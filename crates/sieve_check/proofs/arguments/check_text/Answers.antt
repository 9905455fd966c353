use Rattle.std.proofs.Common.{◌≡◌, ◌∙◌, Some, ap, refl, sym}
use Rattle.encoded_characters.specs.view.Sequence.{octets_shown}
use Rattle.sieve_check.specs.Said.{said}
use Rattle.sieve_check.specs.view.Context.{context_as}
use Rattle.sieve_syntax.specs.view.Tree.{text_of}
use Rattle.sieve_table.specs.view.Required.{required_as}
use Rattle.sieve_check.proofs.Searches.{text_breaks_none, text_breaks_rule}
use Rattle.sieve_check.proofs.arguments.check_text.Goals as goal

pub returns-in-Some-2 : goal.returns-in-Some-2
returns-in-Some-2 c =
    let says : said (required_as c.args.context.spot.required) c.args.role (text_of c.args.text.now).string ≡ Some c.as_slice.result.now =
    ap (said (required_as c.args.context.spot.required) c.args.role) (sym c.octets.ensures) ∙ sym c.in_ok-said.ensures ∙ ap octets_shown c.in-Some.is ∙ ap Some (sym c.as_slice.ensures.value) in
    text_breaks_rule (context_as c.args.context) c.args.role c.args.text.now c.args.text.now.line c.as_slice.result.now c.in-Some-2.rule says refl (sym c.in-Some-2.is ∙ c.in_ok-rule.ensures)

pub returns : goal.returns
returns c =
    let says : said (required_as c.args.context.spot.required) c.args.role (text_of c.args.text.now).string ≡ Some c.as_slice.result.now =
    ap (said (required_as c.args.context.spot.required) c.args.role) (sym c.octets.ensures) ∙ sym c.in_ok-said.ensures ∙ ap octets_shown c.in-Some.is ∙ ap Some (sym c.as_slice.ensures.value) in
    text_breaks_none (context_as c.args.context) c.args.role c.args.text.now c.as_slice.result.now says (sym c.in-None.is ∙ c.in_ok-rule.ensures)
