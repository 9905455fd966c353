use Rattle.std.proofs.Common.{◌≡◌, None, is_some, false, nat_eq, rules, sym, ap, ◌∙◌}
use Rattle.std.specs.Map.{lookup, set_value}
use Rattle.std.specs.Option.{option_copied_mut}
use lib.Pointwise.{pointwise}
use Rattle.bench.specs.Content.{changed}
use Rattle.bench.specs.view.Entry.{entry_with}
use Rattle.bench.proofs.Entries.{changed_absent, set_changed}
use Rattle.bench.proofs.Kept.{distinct_changed}
use Rattle.bench.proofs.messages.give.Goals as goal

pub returns-in-Some-clause-entries : goal.returns-in-Some-clause-entries
returns-in-Some-clause-entries c =
    ap (λ w. set_value (pointwise nat_eq c.args.id.now) c.args.messages.now.entries w) c.take.ensures
    ∙ set_changed c.args.id.now (entry_with c.args.setting) c.args.messages.now.entries c.in-Some.entry.now (sym c.get_mut.ensures.value ∙ ap option_copied_mut c.in-Some.is)

pub returns-in-Some-clause-unique : goal.returns-in-Some-clause-unique
returns-in-Some-clause-unique c =
    let entries : set_value (pointwise nat_eq c.args.id.now) c.args.messages.now.entries c.take.new.self ≡ changed c.args.id.now (entry_with c.args.setting) c.args.messages.now.entries =
    ap (λ w. set_value (pointwise nat_eq c.args.id.now) c.args.messages.now.entries w) c.take.ensures
    ∙ set_changed c.args.id.now (entry_with c.args.setting) c.args.messages.now.entries c.in-Some.entry.now (sym c.get_mut.ensures.value ∙ ap option_copied_mut c.in-Some.is) in
    rw entries (distinct_changed c.args.id.now (entry_with c.args.setting) c.args.messages.now.entries c.get_mut.ensures.unique)

pub returns-in_default-clause-entries : goal.returns-in_default-clause-entries
returns-in_default-clause-entries c =
    let none : c.get_mut.result ≡ None = search rules in
    let absent : is_some (lookup (pointwise nat_eq c.args.id.now) c.args.messages.now.entries) ≡ false = ap is_some (sym c.get_mut.ensures.value ∙ ap option_copied_mut none) in
    sym (changed_absent c.args.id.now (entry_with c.args.setting) c.args.messages.now.entries absent)
