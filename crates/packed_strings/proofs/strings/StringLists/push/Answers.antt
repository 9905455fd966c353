use Rattle.std.proofs.Common.{◌≡◌, ◌++◌, ℕ, List, length, ap, sym, ◌∙◌}
use Rattle.sieve_variables.specs.Part.{Part}
use Rattle.packed_strings.specs.Joined.{Lists, list_in, lists_plus, lists_with}
use Rattle.packed_strings.proofs.Joining.{joined_end, list_kept}
use Rattle.packed_strings.proofs.strings.StringLists.push.Goals as goal

pub invariant_of-self : goal.invariant_of-self
invariant_of-self c =
    let old = c.self.inside in let new = c.put_after.new in
    joined_end old.ends.items new.ends.items old.strings new.strings c.args.texts.items c.self.invariant c.in-Ok.ensures.0 c.in-Ok.ensures.1

pub returns-in-Ok-clause-kept : goal.returns-in-Ok-clause-kept
returns-in-Ok-clause-kept c = λ more.
    let new = c.put_after.new in let texts = c.args.texts.items in
    let lists : Lists = record { strings = c.self.inside.strings; ends = c.self.inside.ends.items } in
    let seen = c.self.view_is in
    let is : record { strings = new.strings; ends = new.ends.items } ≡ lists_with lists texts =
    ap (λ (s : List (List Part)). record { strings = s; ends = new.ends.items }) c.in-Ok.ensures.0
    ∙ ap (λ (e : List ℕ). record { strings = lists.strings ++ texts; ends = e }) c.in-Ok.ensures.1
    in
    ap (λ (l : Lists). list_in (lists_plus l more) (length c.args.self.now.ends)) is
    ∙ ap (λ (l : Lists). list_in (lists_plus (lists_with lists texts) more) (length l.ends)) (sym seen)
    ∙ list_kept lists more texts c.self.invariant
