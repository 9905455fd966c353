use Rattle.std.proofs.Common.{◌≡◌, rules, List, ℕ, SomeIndex, subst, sym, take}
use Rattle.std.proofs.lemmas.Bool.{false≢true}
use Rattle.flag_lists.specs.Flags.{flag_union, flags_in}
use Rattle.flag_lists.proofs.Pieces.{added_more, added_none, added_some, next_there}
use Rattle.flag_lists.proofs.flags.insert_text.Goals as goal

pub loop-flag-init : goal.loop-flag-init
loop-flag-init c = added_none (flags_in c.args.text.now) c.args.flags.now.keys

pub loop-flag-preserved : goal.loop-flag-preserved
loop-flag-preserved c =
    added_more (flags_in c.args.text.now) (flags_in c.loop-flag.rest.now) (flags_in c.in-Some.after.now) c.in-Some.flag.now c.args.flags.now.keys c.loop-flag.flags.keys c.insert_missing.new.flags.keys
    c.in-Some.ensures.some c.in_ok-insert_missing.ensures.ok c.loop-flag.invariant

pub returns-in_err-insert_missing-clause-err : goal.returns-in_err-insert_missing-clause-err
returns-in_err-insert_missing-clause-err c =
    let some = added_some (flags_in c.args.text.now) (flags_in c.loop-flag.rest.now) (flags_in c.in-Some.after.now) c.in-Some.flag.now c.args.flags.now.keys c.loop-flag.flags.keys
    c.in-Some.ensures.some c.loop-flag.invariant in
    search (rules, subst (λ (keys : List (List ℕ)). SomeIndex (flags_in c.args.text.now) (λ i. keys ≡ flag_union c.args.flags.now.keys (take i (flags_in c.args.text.now)))) (sym c.in_err-insert_missing.ensures.err) some)

pub returns-in_err-insert_missing-clause-there : goal.returns-in_err-insert_missing-clause-there
returns-in_err-insert_missing-clause-there c = λ all.
    let there = next_there (flags_in c.args.text.now) (flags_in c.loop-flag.rest.now) (flags_in c.in-Some.after.now) c.in-Some.flag.now c.args.flags.now.keys c.loop-flag.flags.keys
    c.in-Some.ensures.some c.loop-flag.invariant all in
    absurd (false≢true (c.in_err-insert_missing.ensures.there there))
