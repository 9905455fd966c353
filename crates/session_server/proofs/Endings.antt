-- Each session comes to an end. The text of a session that breaks off is a front of a session's
-- text.
use Rattle.octets.specs.Octet.{octet_of}
use Rattle.std.proofs.Common.{◌≡◌, ℕ, ◌<◌, ◌≤◌, zero, suc, List, [], ◌∷◌, ◌++◌, length, take, drop, length-drop, append_assoc, append-nil, sym, ap, ◌∙◌, refl, arith, inl, inr, Bool, true, false, eqb, cond, nat_lt, codes, Option, None, Some, Result, Ok, Err}
use Rattle.std.specs.Option.{option_map}
use Rattle.session_text.specs.SessionLine.{cut_line, first_line, put_before, line_from, without_cr}
use Rattle.sieve_limits.specs.Limits.{line_limit}
use Rattle.sieve_profile.specs.Profile.{Profile}
use Rattle.sieve_run.specs.Meter.{runs_after}
use Rattle.bench.specs.Content.{Content, Edit, after}
use Rattle.bench.specs.Report.{report_text}
use Rattle.bench.specs.Stale.{stale_after}
use Rattle.session_server.specs.Session.{Demand, asks_question, asks_put, asks_edit, asks_report, answer_to, demand_at, BrokenSession, CutSession, Ends, IsFront, Replies, Request, Served, SessionText, SessionStep, Steps, none_yet, one_more, over, unreadable, truncated, asks, edits, reports, profile_of, refusal_line, request_at, request_by, request_of, request_so_far, takes_memory, with_octets}
use Rattle.bench.specs.declared.fault.EditFault.{EditFault}
use Rattle.session_server.proofs.Requests.{asked_with_more}
use Rattle.session_server.specs.declared.status.SessionEnd.{SessionEnd}
use Rattle.session_server.specs.declared.status.SessionEnd.TheVariants as ends

-- THE REST AFTER A COMMAND IS SHORTER

-- fewer than n octets are left after a request
abbrev LeavesFewer : ℕ → Request → Type 0
LeavesFewer n over = Unit {0}
LeavesFewer n unreadable = Unit {0}
LeavesFewer n truncated = Unit {0}
LeavesFewer n (asks question rest) = length rest < n
LeavesFewer n (edits edit rest) = length rest < n
LeavesFewer n (reports rest) = length rest < n

put_fewer : (n count : ℕ) (rest : List ℕ) (edit : List ℕ → Edit) → length rest < n → LeavesFewer n (with_octets count rest edit)
put_fewer n count rest edit less = by_room (nat_lt (length rest) count)
  where
    by_room : (b : Bool) → LeavesFewer n (cond b truncated (edits (edit (take count rest)) (drop count rest)))
    by_room true = tt
    by_room false = omega (arith, length-drop count rest, less)

ask_fewer : (n : ℕ) (ask : Option Demand) (rest : List ℕ) → length rest < n → LeavesFewer n (request_by ask rest)
ask_fewer n None rest less = tt
ask_fewer n (Some (asks_question question)) rest less = less
ask_fewer n (Some (asks_put count edit)) rest less = put_fewer n count rest edit less
ask_fewer n (Some (asks_edit edit)) rest less = less
ask_fewer n (Some asks_report) rest less = less

-- fewer than n octets follow the first LF
abbrev CutsFewer : ℕ → Option (List ℕ × List ℕ) → Type 0
CutsFewer n None = Unit {0}
CutsFewer n (Some cut) = length cut.1 < n

later_fewer : (n b : ℕ) (cut : Option (List ℕ × List ℕ)) → CutsFewer n cut → CutsFewer (suc n) (option_map (put_before b) cut)
later_fewer n b None less = tt
later_fewer n b (Some cut) less = omega (arith, less)

cut_fewer : (bs : List ℕ) → CutsFewer (length bs) (cut_line bs)
cut_fewer [] = tt
cut_fewer (b ∷ bs) = by_octet (cut_fewer bs) (eqb b (octet_of "\n"))
  where
    by_octet : CutsFewer (length bs) (cut_line bs) → (v : Bool) → CutsFewer (suc (length bs)) (cond v (Some ([], bs)) (option_map (put_before b) (cut_line bs)))
    by_octet later true = omega arith
    by_octet later false = later_fewer (length bs) b (cut_line bs) later

at_fewer : (profile : Profile) (n : ℕ) (front rest : List ℕ) → length rest < n → LeavesFewer n (request_at profile (front, rest))
at_fewer profile n front rest less = by_limit (nat_lt line_limit (length front))
  where
    by_limit : (v : Bool) → LeavesFewer n (cond v unreadable (request_by (demand_at profile front) rest))
    by_limit true = tt
    by_limit false = ask_fewer n (demand_at profile front) rest less

stream_fewer : (profile : Profile) (b : ℕ) (bs : List ℕ) → LeavesFewer (length (b ∷ bs)) (request_of profile (b ∷ bs))
unfolding request_of first_line
stream_fewer profile b bs = by_cut (cut_line (b ∷ bs)) (cut_fewer (b ∷ bs))
  where
    by_cut : (cut : Option (List ℕ × List ℕ)) → CutsFewer (length (b ∷ bs)) cut → LeavesFewer (length (b ∷ bs)) (request_at profile (line_from (b ∷ bs) cut))
    by_cut None less = at_fewer profile (length (b ∷ bs)) (b ∷ bs) [] (omega arith)
    by_cut (Some cut) less = at_fewer profile (length (b ∷ bs)) (without_cr cut.0) cut.1 less

-- EACH COMMAND HAS A REPLY, AND EACH STREAM AN END

edit_replies : (edit : Edit) (takes : Bool) (meaning : Result Content EditFault) (old : Served) → (reply : List ℕ) × (new : Served) × Replies edit takes meaning old reply new
edit_replies edit takes (Ok content) old =
    (codes "ok\n", record old { bench = record { content = content; stale = stale_after old.bench.content edit old.bench.stale content } }, inl (refl, (refl, refl, refl)))
edit_replies edit takes (Err fault) old = (refusal_line fault, old, (inl refl, refl))

-- a bench after a report, and the runs
abbrev reported : Served → Served
reported old = record { bench = record old.bench { stale = [] }; runs = runs_after (length old.bench.stale) old.runs }

-- some commands, and then others, are commands in turn
steps_both : (request : Profile → List ℕ → Request) (a b : Served) (s t xs : List ℕ) → Steps request a s xs b t → (c : Served) (u ys : List ℕ) → Steps request b t ys c u → Steps request a s (xs ++ ys) c u
steps_both request a b s t xs first c u ys none_yet = rw append-nil first
steps_both request a b s t xs first c u ys (one_more replies reply mid new rest left before step) =
    rw (← append_assoc xs replies reply) (one_more (xs ++ replies) reply mid new rest left (steps_both request a b s t xs first mid rest replies before) step)

-- a session comes to an end
abbrev ComesToEnd : Served → List ℕ → Type 0
ComesToEnd old stream = (text : List ℕ) × (end : SessionEnd) × (new : Served) × SessionText old stream text end new

ends_here : (old : Served) (stream reply : List ℕ) (end : SessionEnd) → Ends (request_of (profile_of old) stream) end reply → ComesToEnd old stream
ends_here old stream reply end is = (reply, end, old, record { replies = []; last = reply; rest = stream; steps = none_yet; ends = is; whole = refl })

goes_on : (old mid : Served) (stream reply left : List ℕ) → SessionStep old (request_of (profile_of old) stream) reply mid left → ComesToEnd mid left → ComesToEnd old stream
goes_on old mid stream reply left step ended =
    let session = ended.3 in (
      reply ++ ended.0,
      ended.1,
      ended.2,
      record {
        replies = reply ++ session.replies;
        last = session.last;
        rest = session.rest;
        steps = steps_both request_of old mid stream left reply (one_more [] reply old mid stream left none_yet step) ended.2 session.rest session.replies session.steps;
        ends = session.ends;
        whole = ap (λ l. reply ++ l) session.whole ∙ sym (append_assoc reply session.replies session.last);
      },
    )

by_request : (n : ℕ) (old : Served) (stream : List ℕ) (request : Request) → ((new : Served) (rest : List ℕ) → length rest ≤ n → ComesToEnd new rest) → length stream ≤ suc n → LeavesFewer (length stream) request → request_of (profile_of old) stream ≡ request → ComesToEnd old stream
by_request n old stream over go few less is = ends_here old stream [] ends.Done (rw is (refl, refl))
by_request n old stream unreadable go few less is = ends_here old stream (codes "no syntax\n") ends.Syntax (rw is (refl, refl))
by_request n old stream truncated go few less is = ends_here old stream (codes "no truncated\n") ends.Truncated (rw is (refl, refl))
by_request n old stream (asks question rest) go few less is =
    goes_on old old stream (answer_to old.bench.content question) rest (rw is (inl refl, refl, refl)) (go old rest (omega (arith, few, less)))
by_request n old stream (edits edit rest) go few less is =
    let said = edit_replies edit (takes_memory edit) (after old.bench.content edit) old in
    goes_on old said.1 stream said.0 rest (rw is (said.2, refl)) (go said.1 rest (omega (arith, few, less)))
by_request n old stream (reports rest) go few less is = goes_on old (reported old) stream (report_text old.bench.content) rest (rw is (inl (refl, (refl, refl, refl)), refl)) (go (reported old) rest (omega (arith, few, less)))

comes_to_end : (n : ℕ) (old : Served) (stream : List ℕ) → length stream ≤ n → ComesToEnd old stream
unfolding request_of
comes_to_end n old [] few = ends_here old [] [] ends.Done (refl, refl)
comes_to_end zero old (b ∷ bs) few = absurd (omega (arith, few))
comes_to_end (suc n) old (b ∷ bs) few = by_request n old (b ∷ bs) (request_of (profile_of old) (b ∷ bs)) (λ new rest less. comes_to_end n new rest less) few (stream_fewer (profile_of old) b bs) refl

joined : (r f b y x t : List ℕ) → f ++ b ≡ y → (r ++ f) ++ (b ++ (x ++ t)) ≡ ((r ++ y) ++ x) ++ t
joined r f b y x t is = rw (← is) (simp append_assoc)

-- the text of a session whose last reply is cut is a front of a session's text
pub cut_is_front : (old new : Served) (stream text : List ℕ) → CutSession old stream text new → IsFront old stream text
cut_is_front old new stream text cut = elim cut.answered [ inl on ↦ later on.0 on.1 (comes_to_end (length on.0) new on.0 (omega arith)) | inr last ↦ here last.0 last.1 ]
  where
    later : (left : List ℕ) → SessionStep cut.mid (request_of (profile_of cut.mid) cut.rest) cut.reply new left → ComesToEnd new left → IsFront old stream text
    later left step ended =
        let session = ended.3 in (
          cut.back ++ (session.replies ++ session.last),
          ended.1,
          ended.2,
          record {
            replies = (cut.replies ++ cut.reply) ++ session.replies;
            last = session.last;
            rest = session.rest;
            steps = steps_both request_of old new stream left (cut.replies ++ cut.reply) (one_more cut.replies cut.reply cut.mid new cut.rest left cut.steps step) ended.2 session.rest session.replies session.steps;
            ends = session.ends;
            whole = ap (λ l. l ++ (cut.back ++ (session.replies ++ session.last))) cut.whole ∙ joined cut.replies cut.front cut.back cut.reply session.replies session.last cut.cut;
          },
        )

    here : (end : SessionEnd) → Ends (request_of (profile_of cut.mid) cut.rest) end cut.reply → IsFront old stream text
    here end is = (
      cut.back,
      end,
      cut.mid,
      record {
        replies = cut.replies;
        last = cut.reply;
        rest = cut.rest;
        steps = cut.steps;
        ends = is;
        whole = ap (λ l. l ++ cut.back) cut.whole ∙ append_assoc cut.replies cut.front cut.back ∙ ap (λ l. cut.replies ++ l) cut.cut;
      },
    )

-- WHERE NO MORE COULD BE READ

-- the commands that are whole in the octets read are the first of a stream that begins with these
steps_with_more : (old : Served) (read more text : List ℕ) (new : Served) (rest : List ℕ) → Steps request_so_far old read text new rest → Steps request_of old (read ++ more) text new (rest ++ more)
steps_with_more old read more text new rest none_yet = none_yet
steps_with_more old read more text new rest (one_more replies reply mid last before left steps step) =
    one_more replies reply mid last (before ++ more) (left ++ more) (steps_with_more old read more replies mid before steps) (asked_with_more (profile_of mid) mid last before more reply left step)

pub broken_with_more : (old new : Served) (read text more : List ℕ) (session : BrokenSession old read text new) → Steps request_of old (read ++ more) text new (session.rest ++ more)
broken_with_more old new read text more session = steps_with_more old read more text new session.rest session.steps

-- the text of a session of which no more could be read is a front of a session's text
pub broken_is_front : (old new : Served) (read text more : List ℕ) → BrokenSession old read text new → IsFront old (read ++ more) text
broken_is_front old new read text more broken = later (comes_to_end (length (broken.rest ++ more)) new (broken.rest ++ more) (omega arith))
  where
    later : ComesToEnd new (broken.rest ++ more) → IsFront old (read ++ more) text
    later ended =
        let session = ended.3 in (
          session.replies ++ session.last,
          ended.1,
          ended.2,
          record {
            replies = text ++ session.replies;
            last = session.last;
            rest = session.rest;
            steps = steps_both request_of old new (read ++ more) (broken.rest ++ more) text (broken_with_more old new read text more broken) ended.2 session.rest session.replies session.steps;
            ends = session.ends;
            whole = sym (append_assoc text session.replies session.last);
          },
        )
