use Rattle.std.proofs.Common.{[], ◌∷◌, ◌++◌, List, ap, ◌∙◌}
use Rattle.sieve_variables.specs.Part.{Part}
use Rattle.packed_strings.proofs.Joining.{joined_end, joined_more}
use Rattle.packed_strings.proofs.joined.JoinedStrings.push.Goals as goal

pub invariant_of-self : goal.invariant_of-self
invariant_of-self c =
    let old = c.self.inside in let new = c.put_after.new in
    joined_end old.ends.items new.ends.items old.parts.items new.parts.items c.args.string c.self.invariant c.in-Ok.ensures.0 c.in-Ok.ensures.1

pub returns-in-Ok : goal.returns-in-Ok
returns-in-Ok c =
    let old = c.self.inside in let new = c.put_after.new in
    joined_more old.ends.items new.ends.items old.parts.items new.parts.items c.args.string c.self.invariant c.in-Ok.ensures.0 c.in-Ok.ensures.1
    ∙ ap (λ (s : List (List Part)). s ++ c.args.string ∷ []) c.self.view_is
