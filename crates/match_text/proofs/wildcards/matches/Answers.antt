use Rattle.std.proofs.Common.{None, Some, sym, ◌∙◌, ap}
use Rattle.std.specs.Option.{option_map}
use Rattle.match_text.specs.view.Segment.{texts_of}
use Rattle.match_text.proofs.FoldedItems.{matched_from}
use Rattle.match_text.proofs.LeastFit.{matched-count, none_answered}
use Rattle.match_text.proofs.wildcards.matches.Goals as goal

pub returns-in-Some-clause-exact : goal.returns-in-Some-clause-exact
returns-in-Some-clause-exact g c =
    sym (ap (option_map (λ texts. texts_of texts.items)) c.in-Some.is) ∙ c.in_ok-texts.ensures
    ∙ matched_from g.C.Comparator.folded c.args.value.now c.args.pattern.now _ _ (c.deref.ensures.value ∙ c.in_ok-items.ensures) (c.deref-2.ensures.value ∙ c.in_ok-text.ensures)

pub returns-in-Some-clause-none : goal.returns-in-Some-clause-none
returns-in-Some-clause-none g c =
    none_answered g.C.Comparator.folded c.args.value.now c.args.pattern.now (Some (texts_of c.in-Some.texts.items)) (returns-in-Some-clause-exact g c)

pub returns-in-Some-clause-count : goal.returns-in-Some-clause-count
returns-in-Some-clause-count g c =
    matched-count g.C.Comparator.folded c.args.value.now c.args.pattern.now (texts_of c.in-Some.texts.items) (sym (returns-in-Some-clause-exact g c))

pub returns-clause-exact : goal.returns-clause-exact
returns-clause-exact g c =
    sym (ap (option_map (λ texts. texts_of texts.items)) c.in-None.is) ∙ c.in_ok-texts.ensures
    ∙ matched_from g.C.Comparator.folded c.args.value.now c.args.pattern.now _ _ (c.deref.ensures.value ∙ c.in_ok-items.ensures) (c.deref-2.ensures.value ∙ c.in_ok-text.ensures)

pub returns-clause-none : goal.returns-clause-none
returns-clause-none g c =
    none_answered g.C.Comparator.folded c.args.value.now c.args.pattern.now None (returns-clause-exact g c)
