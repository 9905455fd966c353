use Rattle.std.proofs.Common.{◌∙◌, [], ap, is_some, subst, sym, ◌≡◌, List, ℕ, ◌∷◌}
use Rattle.std.proofs.lemmas.List.Quantifiers.{position-Some}
use Rattle.match_text.specs.Comparator.{ascii_casemap, same}
use Rattle.flag_lists.specs.Flags.{flags_without}
use Rattle.flag_lists.proofs.Finding.{none_taken, taken_out}
use Rattle.flag_lists.proofs.flags.FlagList.take_out.Goals as goal

pub returns-in_err-place-clause-without : goal.returns-in_err-place-clause-without
returns-in_err-place-clause-without c =
    let flag = c.args.flag.now in
    subst (λ (l : List (List ℕ)). l ≡ flags_without l (flag ∷ [])) c.self.view_is
    (sym (none_taken c.self.inside.flags.keys flag (sym c.get_index_of.ensures.found ∙ ap is_some c.in_err-place.was)))

pub returns-clause-without : goal.returns-clause-without
returns-clause-without c =
    let flags = c.self.inside.flags.keys in let flag = c.args.flag.now in
    let at = position-Some (same ascii_casemap flag) flags c.in_ok-place.place [] (sym c.get_index_of.ensures.index ∙ c.in_ok-place.was) in
    c.shift_remove_index.ensures.keys
    ∙ sym (taken_out flags flag c.in_ok-place.place [] c.self.invariant at.0 at.1 at.2)
    ∙ ap (λ l. flags_without l (flag ∷ [])) c.self.view_is
