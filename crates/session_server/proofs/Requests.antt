-- The requests of the lines of a session's input.
use Rattle.octets.specs.Octet.{octet_of}
use Rattle.std.proofs.Common.{◌≡◌, ℕ, ◌<◌, ◌≤◌, ◌⊎◌, inl, inr, List, [], ◌∷◌, ◌++◌, length, take, drop, sym, ap, ◌∙◌, refl, arith, subst, append_assoc, take-append-drop, Option, None, Some, Bool, true, false, eqb, nat_lt, cond, codes, IfSome, length-append, length-take, ◌+◌}
use Rattle.std.proofs.lemmas.Bool.{cases_lt}
use Rattle.std.proofs.lemmas.Bool.Decides.{nat_tests}
use Rattle.std.proofs.Math.Seq.{drop-append_seam, take-append_seam}
use Rattle.std.proofs.KnownBytes.{Appends-nil}
use Rattle.std.specs.Io.KnownBytes.{Keeps, prepend_known}
use Rattle.std.specs.Option.{option_map}
use Rattle.sieve_limits.specs.Limits.{line_limit}
use Rattle.sieve_profile.specs.Profile.{Profile}
use Rattle.bench.specs.Content.{Edit}
use Rattle.session_text.specs.view.Line.{IsCutOff, IsEnded, IsLine, IsWithinLine}
use Rattle.session_server.specs.Session.{Demand, asks_question, asks_put, asks_edit, asks_report, demand_at, Request, Served, SessionStep, profile_of, request_after, request_of, request_at, request_by, request_so_far, with_octets, edits, truncated, unreadable}
use Rattle.session_text.specs.SessionLine.{cut_line, ended_line, first_line, put_before, is_long_so_far, line_from, line_so_far, without_cr}
use Rattle.session_server.specs.view.Task.{IsFollowedBy}
use Rattle.session_server.specs.view.Progress.{AsksAlone, BreakFrom, CutFrom, StepFrom, EndFrom, MayBeRefused, ServesFrom}
use Rattle.session_server.proofs.Serving.{EndsAt, put_refused, question_refused, short}
use Rattle.session_text.specs.declared.line.Line.TheVariants.{Over, Whole, TooLong}
use Rattle.session_server.specs.declared.status.SessionEnd.{SessionEnd}
use Rattle.session_server.specs.declared.status.SessionEnd.TheVariants as ends

-- a demand that is forgotten may be out of memory
pub forgotten : (ask : Option Demand) (count : ℕ) → IsFollowedBy count ask → MayBeRefused count (request_by ask)
forgotten None count is = absurd is
forgotten (Some (asks_question question)) count is = rw is.0 (question_refused question is.1)
forgotten (Some (asks_put n edit)) count is = rw is.0 (put_refused count edit is.1)
forgotten (Some (asks_edit edit)) count is = absurd is
forgotten (Some asks_report) count is = absurd is

-- a line that is no command ends the session
pub unreadable_ends : (unused : Option (List ℕ)) → EndsAt (request_by None) unused ends.Syntax (codes "no syntax\n")
unreadable_ends None = tt
unreadable_ends (Some xs) = (refl, refl)

-- THE OCTETS AFTER A COMMAND DON'T MATTER TO IT

-- the octets before the rest ask for a command, whatever follows them
abbrev Alone : (List ℕ → Request) → Served → List ℕ → List ℕ → Served → List ℕ → Type 0
Alone request old unused reply new left = (used : List ℕ) × (unused ≡ used ++ left) × ((more : List ℕ) → SessionStep old (request (used ++ more)) reply new more)

put_of : (octets more : List ℕ) (edit : List ℕ → Edit) → with_octets (length octets) (octets ++ more) edit ≡ edits (edit octets) more
put_of octets more edit =
    let size : length octets + length more ≡ length (octets ++ more) = sym (length-append octets more) in
    let some : nat_lt (length (octets ++ more)) (length octets) ≡ false = grind (arith, nat_tests, size) in
    rw some (rw (take-append_seam octets more) (rw (drop-append_seam octets more) refl))

put_alone : (count : ℕ) (edit : List ℕ → Edit) (old new : Served) (xs ys reply : List ℕ) → SessionStep old (with_octets count xs edit) reply new ys → Alone (λ rest. with_octets count rest edit) old xs reply new ys
put_alone count edit old new xs ys reply step = by_room (cases_lt (length xs) count)
  where
    by_room : (length xs < count) ⊎ (count ≤ length xs) → Alone (λ rest. with_octets count rest edit) old xs reply new ys
    by_room (inl less) = absurd (rw (short count edit xs less) at step)
    by_room (inr within) =
        let size : length (take count xs) ≡ count = omega (arith, length-take count xs, within) in
        let there : xs ≡ take count xs ++ drop count xs = sym (take-append-drop count xs) in
        let some : nat_lt (length xs) count ≡ false = grind (arith, nat_tests, within) in
        let step' : SessionStep old (edits (edit (take count xs)) (drop count xs)) reply new ys = rw some at step in (
          take count xs,
          there ∙ ap (λ l. take count xs ++ l) (sym step'.1),
          λ more. subst (λ n. SessionStep old (with_octets n (take count xs ++ more) edit) reply new more) size (rw (put_of (take count xs) more edit) (step'.0, refl)),
        )

step_alone : (ask : Option Demand) (old new : Served) (xs ys reply : List ℕ) → SessionStep old (request_by ask xs) reply new ys → Alone (request_by ask) old xs reply new ys
step_alone None old new xs ys reply step = absurd step
step_alone (Some (asks_question question)) old new xs ys reply step = ([], sym step.2, λ more. (step.0, step.1, refl))
step_alone (Some (asks_put count edit)) old new xs ys reply step = put_alone count edit old new xs ys reply step
step_alone (Some (asks_edit edit)) old new xs ys reply step = ([], sym step.1, λ more. (step.0, refl))
step_alone (Some asks_report) old new xs ys reply step = ([], sym step.1, λ more. (step.0, refl))

-- THE NEXT LINE

-- a stream whose first line is within the limit has the request of that line
whole_request : (profile : Profile) (stream front rest : List ℕ) → 0 < length stream → first_line stream ≡ (front, rest) → length front ≤ line_limit → request_of profile stream ≡ request_by (demand_at profile front) rest
unfolding request_of
whole_request profile [] front rest some is small = absurd (omega arith)
whole_request profile (b ∷ bs) front rest some is small =
    let within : nat_lt line_limit (length front) ≡ false = grind (arith, nat_tests) in
    ap (request_at profile) is ∙ ap (λ (v : Bool). cond v unreadable (request_by (demand_at profile front) rest)) within

-- a stream whose first line is past the limit is unreadable
long_request : (profile : Profile) (stream : List ℕ) → 0 < length stream → line_limit < length (first_line stream).0 → request_of profile stream ≡ unreadable
unfolding request_of
long_request profile [] some long = absurd (omega arith)
long_request profile (b ∷ bs) some long =
    let past : nat_lt line_limit (length (first_line (b ∷ bs)).0) ≡ true = grind (arith, nat_tests) in
    ap (λ (v : Bool). cond v unreadable (request_by (demand_at profile (first_line (b ∷ bs)).0) (first_line (b ∷ bs)).1)) past

-- a session is done where its input has come to the end
pub over_end : (old : Served) (unused rest before : Option (List ℕ)) (pending : List ℕ) → Keeps unused (prepend_known pending rest) → IfSome rest (IsLine Over pending) → EndFrom (request_of (profile_of old)) ends.Done old unused before old before
unfolding request_of
over_end old None rest before pending same end = tt
over_end old (Some xs) None before pending same end = absurd same
over_end old (Some xs) (Some ys) before pending same end = ([], rw (sym same ∙ end) (refl, refl), Appends-nil before, refl)

-- a line that is too long ends the session
pub long_end : (profile : Profile) (unused rest : Option (List ℕ)) (pending : List ℕ) → Keeps unused (prepend_known pending rest) → IfSome rest (IsLine TooLong pending) → 0 < length pending → EndsAt (request_of profile) unused ends.Syntax (codes "no syntax\n")
long_end profile None rest pending same long some = tt
long_end profile (Some xs) None pending same long some = absurd same
long_end profile (Some xs) (Some ys) pending same long some =
    let size : length (pending ++ ys) ≡ length pending + length ys = length-append pending ys in
    rw (← same) (rw (long_request profile (pending ++ ys) (omega arith) long) (refl, refl))

-- a line of which no more can be read breaks the session off
pub cut_line_break : (old : Served) (unused rest written : Option (List ℕ)) (pending : List ℕ) → Keeps unused (prepend_known pending rest) → IsCutOff pending → BreakFrom (request_so_far (profile_of old)) old unused written old rest written
unfolding request_so_far line_so_far
cut_line_break old None rest written pending same cut = tt
cut_line_break old (Some xs) None written pending same cut = absurd same
cut_line_break old (Some xs) (Some ys) written pending same cut = (pending, sym same, rw cut.0 (rw cut.1 refl), Appends-nil written, refl)

-- the octets begin with the line `front`, and ask for what this line asks for with the octets after
-- it
abbrev pub Begins : Profile → List ℕ → Option Demand → Option (List ℕ) → Option (List ℕ) → Type 0
Begins profile front ask None after = Unit {0}
Begins profile front ask (Some xs) None = ⊥
Begins profile front ask (Some xs) (Some ys) = (xs ≡ front ++ ys) × (request_of profile xs ≡ request_by ask ys)

-- the line `front` asks for the same, whatever follows it
abbrev pub BeginsAlone : Profile → List ℕ → Option Demand → Type 0
BeginsAlone profile front ask = (more : List ℕ) → request_so_far profile (front ++ more) ≡ request_by ask more

pub line_begins : (profile : Profile) (unused rest : Option (List ℕ)) (pending : List ℕ) (len skip : ℕ) → Keeps unused (prepend_known pending rest) → IfSome rest (IsLine (Whole len skip) pending) → IsWithinLine (Whole len skip) pending
    → Begins profile (take skip pending) (demand_at profile (take len pending)) unused (prepend_known (drop skip pending) rest)
line_begins profile None rest pending len skip same is within = tt
line_begins profile (Some xs) None pending len skip same is within = absurd same
line_begins profile (Some xs) (Some ys) pending len skip same is within =
    let size : length (pending ++ ys) ≡ length pending + length ys = length-append pending ys in
    let cut : pending ++ ys ≡ take skip pending ++ (drop skip pending ++ ys) = ap (λ l. l ++ ys) (sym (take-append-drop skip pending)) ∙ append_assoc (take skip pending) (drop skip pending) ys in
    rw (← same) (cut, whole_request profile (pending ++ ys) (take len pending) (drop skip pending ++ ys) (omega (arith, within)) is (omega (arith, length-take len pending, within)))

pub line_alone : (profile : Profile) (pending : List ℕ) (len skip : ℕ) → IsEnded (Whole len skip) pending → IsWithinLine (Whole len skip) pending → BeginsAlone profile (take skip pending) (demand_at profile (take len pending))
unfolding request_so_far
line_alone profile pending len skip ended within = λ more.
    let few : nat_lt line_limit (length (take len pending)) ≡ false = grind (arith, nat_tests, length-take len pending, within) in
    ap (request_after profile (take skip pending ++ more)) (ended more) ∙ ap (λ (v : Bool). cond v unreadable (request_by (demand_at profile (take len pending)) more)) few

pub step_served : (front : List ℕ) (ask : Option Demand) (ended : Bool) (old new : Served) (unused after left before after' : Option (List ℕ)) → Begins (profile_of old) front ask unused after → (ended ≡ false → BeginsAlone (profile_of old) front ask)
    → StepFrom (request_by ask) old after before new left after' → ServesFrom ended old unused before new left after'
step_served front ask ended old new None after left before after' begins alone step = tt
step_served front ask ended old new (Some xs) None left before after' begins alone step = absurd begins
step_served front ask ended old new (Some xs) (Some ys) None before after' begins alone step = step
step_served front ask ended old new (Some xs) (Some ys) (Some zs) before after' begins alone step = (step.0, rw begins.1 step.1, λ is. asked (alone is), step.2)
  where
    asked : BeginsAlone (profile_of old) front ask → AsksAlone old xs step.0 new zs
    asked whole =
        let own : Alone (request_by ask) old ys step.0 new zs = step_alone ask old new ys zs step.0 step.1 in (
          front ++ own.0,
          begins.0 ∙ ap (λ l. front ++ l) own.1 ∙ sym (append_assoc front own.0 zs),
          λ more. rw (append_assoc front own.0 more) (rw (whole (own.0 ++ more)) (own.2 more)),
        )

pub end_served : (front : List ℕ) (ask : Option Demand) (end : SessionEnd) (old new : Served) (unused after before after' : Option (List ℕ)) → Begins (profile_of old) front ask unused after
    → EndFrom (request_by ask) end old after before new after' → EndFrom (request_of (profile_of old)) end old unused before new after'
end_served front ask end old new None after before after' begins ended = tt
end_served front ask end old new (Some xs) None before after' begins ended = absurd begins
end_served front ask end old new (Some xs) (Some ys) before after' begins ended = (ended.0, rw begins.1 ended.1, ended.2, ended.3)

pub break_served : (front : List ℕ) (ask : Option Demand) (old new : Served) (unused after rest before after' : Option (List ℕ)) → Begins (profile_of old) front ask unused after → BeginsAlone (profile_of old) front ask
    → BreakFrom (request_by ask) old after before new rest after' → BreakFrom (request_so_far (profile_of old)) old unused before new rest after'
break_served front ask old new None after rest before after' begins alone broken = tt
break_served front ask old new (Some xs) None rest before after' begins alone broken = absurd begins
break_served front ask old new (Some xs) (Some ys) None before after' begins alone broken = broken
break_served front ask old new (Some xs) (Some ys) (Some zs) before after' begins alone broken =
    (front ++ broken.0, begins.0 ∙ ap (λ l. front ++ l) broken.1 ∙ sym (append_assoc front broken.0 zs), alone broken.0 ∙ broken.2, broken.3, broken.4)

pub cut_served : (front : List ℕ) (ask : Option Demand) (old new : Served) (unused after before after' : Option (List ℕ)) → Begins (profile_of old) front ask unused after
    → CutFrom (request_by ask) old after before new after' → CutFrom (request_of (profile_of old)) old unused before new after'
cut_served front ask old new None after before after' begins cut = tt
cut_served front ask old new (Some xs) None before after' begins cut = absurd begins
cut_served front ask old new (Some xs) (Some ys) before after' begins cut = (cut.0, cut.1, cut.2, cut.3, rw begins.1 cut.4, cut.5)

-- OCTETS WITH OTHERS AFTER THEM

-- Where the first octets have a line that has ended, all of them have that line. The octets that
-- follow are after it.
abbrev KeepsCut : List ℕ → Option (List ℕ × List ℕ) → Option (List ℕ × List ℕ) → Type 0
KeepsCut more None all = Unit {0}
KeepsCut more (Some cut) all = all ≡ Some (cut.0, cut.1 ++ more)

cut_kept : (read more : List ℕ) → KeepsCut more (cut_line read) (cut_line (read ++ more))
cut_kept [] more = tt
cut_kept (b ∷ bs) more = by_octet (eqb b (octet_of "\n")) (cut_line bs) (cut_line (bs ++ more)) (cut_kept bs more)
  where
    by_octet : (v : Bool) (first all : Option (List ℕ × List ℕ)) → KeepsCut more first all
        → KeepsCut more (cond v (Some ([], bs)) (option_map (put_before b) first)) (cond v (Some ([], bs ++ more)) (option_map (put_before b) all))
    by_octet true first all kept = refl
    by_octet false None all kept = tt
    by_octet false (Some cut) all kept = ap (option_map (put_before b)) kept

-- a line with octets after it has the same request with more octets after these
line_and_more : (profile : Profile) (old new : Served) (front rest more reply left : List ℕ) → SessionStep old (request_at profile (front, rest)) reply new left
    → SessionStep old (request_at profile (front, rest ++ more)) reply new (left ++ more)
line_and_more profile old new front rest more reply left = by_limit (nat_lt line_limit (length front))
  where
    by_limit : (long : Bool) → SessionStep old (cond long unreadable (request_by (demand_at profile front) rest)) reply new left → SessionStep old (cond long unreadable (request_by (demand_at profile front) (rest ++ more))) reply new (left ++ more)
    by_limit true step = step
    by_limit false step =
        let own : Alone (request_by (demand_at profile front)) old rest reply new left = step_alone (demand_at profile front) old new rest left reply step in
        let cut : own.0 ++ (left ++ more) ≡ rest ++ more = sym (append_assoc own.0 left more) ∙ ap (λ l. l ++ more) (sym own.1) in
        subst (λ l. SessionStep old (request_by (demand_at profile front) l) reply new (left ++ more)) cut (own.2 (left ++ more))

-- a stream that begins with the octets read has the request of these
pub asked_with_more : (profile : Profile) (old new : Served) (read more reply left : List ℕ) → SessionStep old (request_so_far profile read) reply new left → SessionStep old (request_of profile (read ++ more)) reply new (left ++ more)
unfolding request_of request_so_far first_line line_so_far
asked_with_more profile old new [] more reply left step = absurd step
asked_with_more profile old new (b ∷ bs) more reply left step = by_cut (cut_line (b ∷ bs)) (cut_line ((b ∷ bs) ++ more)) (cut_kept (b ∷ bs) more) step
  where
    by_length : (long : Bool) → SessionStep old (cond long unreadable truncated) reply new left → ⊥
    by_length true step = step
    by_length false step = step

    by_cut : (first all : Option (List ℕ × List ℕ)) → KeepsCut more first all → SessionStep old (request_after profile (b ∷ bs) (option_map ended_line first)) reply new left → SessionStep old (request_at profile (line_from ((b ∷ bs) ++ more) all)) reply new (left ++ more)
    by_cut None all kept step = absurd (by_length (is_long_so_far (b ∷ bs)) step)
    by_cut (Some cut) all kept step = rw kept (line_and_more profile old new (without_cr cut.0) cut.1 more reply left step)
