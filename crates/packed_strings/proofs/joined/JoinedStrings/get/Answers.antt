use Rattle.std.proofs.Common.{ℕ, List, [], ap, get_or, ◌∙◌}
use Rattle.sieve_variables.specs.Part.{Part}
use Rattle.packed_strings.specs.Joined.{between, start}
use Rattle.packed_strings.proofs.Joining.{item_at}
use Rattle.packed_strings.proofs.joined.JoinedStrings.get.Goals as goal

pub returns : goal.returns
returns c =
    let ends = c.self.inside.ends.items in let parts = c.self.inside.parts.items in let i = c.args.i in
    c.between.ensures
    ∙ ap (λ (n : ℕ). between n c.bounds-from.result.1 c.deref-2.result.now) (c.bounds-from.ensures.0 ∙ ap (λ (e : List ℕ). start e i) c.deref.ensures.value)
    ∙ ap (λ (n : ℕ). between (start ends i) n c.deref-2.result.now) (c.bounds-from.ensures.1 ∙ ap (λ (e : List ℕ). get_or e i 0) c.deref.ensures.value)
    ∙ ap (λ (p : List Part). between (start ends i) (get_or ends i 0) p) c.deref-2.ensures.value
    ∙ item_at ends parts i
    ∙ ap (λ (n : List (List Part)). get_or n i []) c.self.view_is
