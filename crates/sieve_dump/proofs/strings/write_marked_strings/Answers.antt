-- The octets that were written of the strings so far, and the texts of those that are left.
use Rattle.std.proofs.Common.{[], ◌∷◌, ◌++◌, ◌≡◌, ◌+◌, ◌≤◌, List, ℕ, length, drop, refl, rules, subst, sym, ap, ◌∙◌, append_assoc}
use Rattle.std.specs.List.{flat_map}
use Rattle.std.proofs.lemmas.List.{append-nil, drop_all}
use Rattle.devices.specs.Writers.{Wrote, WroteFront}
use Rattle.devices.proofs.Writing.{writes_failed, wrote_both, wrote_front_of, wrote_nothing, wrote_then_front}
use Rattle.packed_strings.proofs.Joining.{drop_at}
use Rattle.sieve_variables.specs.Part.{Part}
use Rattle.sieve_dump.specs.view.Marked.{marked_string}
use Rattle.sieve_dump.proofs.strings.write_marked_strings.Goals as goal

-- the text of one more string stands after the octets that were written
more_whole : (done text whole : List ℕ) (strings : List (List Part)) (i : ℕ) (string : List Part) → drop i strings ≡ string ∷ drop (i + 1) strings → text ≡ marked_string string
    → done ++ flat_map marked_string (drop i strings) ≡ whole → (done ++ text) ++ flat_map marked_string (drop (i + 1) strings) ≡ whole
more_whole done text whole strings i string left is so =
    append_assoc done text (flat_map marked_string (drop (i + 1) strings))
    ∙ ap (λ t. done ++ (t ++ flat_map marked_string (drop (i + 1) strings))) is
    ∙ ap (λ l. done ++ flat_map marked_string l) (sym left)
    ∙ so

pub loop-i-init : goal.loop-i-init
loop-i-init g c = ([], wrote_nothing _ _ _, refl)

pub loop-i-preserved : goal.loop-i-preserved
unfolding marked_string
loop-i-preserved g c =
    let was = c.loop-i.invariant in let strings = c.args.strings.now in let string = c.get.result.now in
    (was.0 ++ marked_string string, wrote_both _ _ _ _ _ was.0 (marked_string string) was.1 c.in_ok-write_string.ensures, more_whole was.0 (marked_string string) _ strings c.loop-i.i string (drop_at strings c.loop-i.i string c.get.ensures) refl was.2)

pub returns-in_err-write_string : goal.returns-in_err-write_string
unfolding marked_string
returns-in_err-write_string g c =
    let was = c.loop-i.invariant in let strings = c.args.strings.now in let string = c.get.result.now in
    writes_failed _ _ _ _ _ _ c.from_residual.ensures.0
    (subst (λ (t : List ℕ). WroteFront g.W.Sink.contents g.W.Faults.fault_count c.args.writer.now c.write_string.new.writer t)
    (more_whole was.0 (marked_string string) _ strings c.loop-i.i string (drop_at strings c.loop-i.i string c.get.ensures) refl was.2)
    (wrote_front_of _ _ _ _ _ _ (wrote_then_front _ _ _ _ _ was.0 (marked_string string) was.1 c.in_err-write_string.ensures)))

pub returns : goal.returns
returns g c =
    let was = c.loop-i.invariant in let strings = c.args.strings.now in
    let ended : length strings ≤ c.loop-i.i = search rules in
    subst (λ (t : List ℕ). Wrote g.W.Sink.contents g.W.Faults.fault_count c.args.writer.now c.loop-i.writer t)
    (sym (append-nil was.0) ∙ ap (λ l. was.0 ++ flat_map marked_string l) (sym (drop_all c.loop-i.i strings ended)) ∙ was.2) was.1
