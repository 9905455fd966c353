-- How the commands of a session follow one another.
use Rattle.std.proofs.Common.{◌≡◌, ℕ, ◌+◌, ◌-◌, ◌^◌, ◌≤◌, ◌⊎◌, inl, inr, Bool, false, List, [], ◌++◌, length, refl, sym, ap, ◌∙◌, append_assoc, append-nil, arith, Option, None, Some}
use Rattle.std.proofs.KnownBytes.{Appends-nil, Appends-trans}
use Rattle.devices.specs.Devices.{HasRisen}
use Rattle.session_text.specs.view.Input.{CallsMade, Input, Reads, TurnsGave}
use Rattle.session_server.specs.Session.{BrokenSessionFrom, CutSessionFrom, SessionFrom, MatchFault, MatchSessionEnd, ReadsAreMade, Served, TurnsAreSpent, none_yet, one_more, profile_of, request_of, request_so_far}
use Rattle.session_server.specs.view.Progress.{BreakFrom, CutFrom, EndFrom, ServesFrom, SoFar}
use Rattle.session_server.specs.declared.status.SessionEnd.{SessionEnd}
use Rattle.session_server.specs.declared.status.SessionEnd.TheVariants.{Done, Syntax, Truncated, Read, Write, NoMemory, TurnLimit}

-- nothing is done in the beginning
pub so_far_begins : (ended : Bool) (bench : Served) (unused written : Option (List ℕ)) → SoFar ended bench unused written bench unused written
so_far_begins ended bench None written = tt
so_far_begins ended bench (Some stream) written = ([], none_yet, λ going. ([], refl, λ more. none_yet), Appends-nil written)

-- one more command is carried out
pub so_far_more : (ended ended' : Bool) (old mid new : Served) (stream unused left before after' written : Option (List ℕ)) → (ended' ≡ false → ended ≡ false) → SoFar ended old stream before mid unused after'
    → ServesFrom ended' mid unused after' new left written → SoFar ended' old stream before new left written
so_far_more ended ended' old mid new None unused left before after' written stays done step = tt
so_far_more ended ended' old mid new (Some s) None left before after' written stays done step = absurd done
so_far_more ended ended' old mid new (Some s) (Some t) None before after' written stays done step = absurd step
so_far_more ended ended' old mid new (Some s) (Some t) (Some u) before after' written stays done step = (
  done.0 ++ step.0,
  one_more done.0 step.0 mid new t u done.1 step.1,
  λ going.
      let first = done.2 (stays going) in
      let second = step.2 going in (
        first.0 ++ second.0,
        first.1 ∙ ap (λ l. first.0 ++ l) second.1 ∙ sym (append_assoc first.0 second.0 u),
        λ more. rw (append_assoc first.0 second.0 more) (one_more done.0 step.0 mid new (second.0 ++ more) more (first.2 (second.0 ++ more)) (second.2 more)),
      ),
  Appends-trans before after' written done.0 step.0 done.3 step.3,
)

-- the end that the octets ask for
pub so_far_ends : (ended : Bool) (end : SessionEnd) (old mid new : Served) (stream unused before after' written : Option (List ℕ)) → SoFar ended old stream before mid unused after' → EndFrom (request_of (profile_of mid)) end mid unused after' new written → SessionFrom end old stream before new written
so_far_ends ended end old mid new None unused before after' written done last = tt
so_far_ends ended end old mid new (Some s) None before after' written done last = absurd done
so_far_ends ended end old mid new (Some s) (Some t) before after' written done last = (
  done.0 ++ last.0,
  record { replies = done.0; last = last.0; rest = t; steps = rw last.3 done.1; ends = rw last.3 last.1; whole = refl },
  Appends-trans before after' written done.0 last.0 done.3 last.2,
)

-- a session of which no more can be read
pub so_far_breaks : (ended : Bool) (old mid new : Served) (stream unused rest before after' written : Option (List ℕ)) → ended ≡ false → SoFar ended old stream before mid unused after' → BreakFrom (request_so_far (profile_of mid)) mid unused after' new rest written
    → BrokenSessionFrom old stream before new rest written
so_far_breaks ended old mid new None unused rest before after' written going done last = tt
so_far_breaks ended old mid new (Some s) None rest before after' written going done last = absurd done
so_far_breaks ended old mid new (Some s) (Some t) None before after' written going done last = absurd last
so_far_breaks ended old mid new (Some s) (Some t) (Some u) before after' written going done last =
    let first = done.2 going in (
      first.0 ++ last.0,
      done.0,
      first.1 ∙ ap (λ l. first.0 ++ l) last.1 ∙ sym (append_assoc first.0 last.0 u),
      record { rest = last.0; steps = rw last.4 (first.2 last.0); breaks = rw last.4 last.2 },
      rw (append-nil done.0) at (Appends-trans before after' written done.0 [] done.3 last.3),
    )

-- a session of which no more can be written
pub so_far_cut : (ended : Bool) (old mid new : Served) (stream unused before after' written : Option (List ℕ)) → SoFar ended old stream before mid unused after' → CutFrom (request_of (profile_of mid)) mid unused after' new written
    → CutSessionFrom old stream before new written
so_far_cut ended old mid new None unused before after' written done last = tt
so_far_cut ended old mid new (Some s) None before after' written done last = absurd done
so_far_cut ended old mid new (Some s) (Some t) before after' written done last = (
  done.0 ++ last.1,
  record { replies = done.0; mid = mid; rest = t; reply = last.0; front = last.1; back = last.2; steps = done.1; answered = last.4; cut = last.3; whole = refl },
  Appends-trans before after' written done.0 last.1 done.3 last.5,
)

-- a session at each of its ends
pub so_far_ends_by : (end : SessionEnd) (ended ended' : Bool) (old mid new : Served) (stream unused rest before after' written : Option (List ℕ)) (Q A B F : Type 0) → (ended' ≡ false → ended ≡ false) → SoFar ended old stream before mid unused after'
    → MatchFault end ((ended' ≡ false) × A) F ((ended' ≡ false) × B)
    → MatchSessionEnd end (EndFrom (request_of (profile_of mid)) end mid unused after' new written) (BreakFrom (request_so_far (profile_of mid)) mid unused after' new rest written) (CutFrom (request_of (profile_of mid)) mid unused after' new written) ⊥
    → MatchSessionEnd end (SessionFrom end old stream before new written) (BrokenSessionFrom old stream before new rest written) (CutSessionFrom old stream before new written) Q
so_far_ends_by Done ended ended' old mid new stream unused rest before after' written Q A B F stays done known last = so_far_ends ended Done old mid new stream unused before after' written done last
so_far_ends_by Syntax ended ended' old mid new stream unused rest before after' written Q A B F stays done known last = so_far_ends ended Syntax old mid new stream unused before after' written done last
so_far_ends_by Truncated ended ended' old mid new stream unused rest before after' written Q A B F stays done known last = so_far_ends ended Truncated old mid new stream unused before after' written done last
so_far_ends_by Read ended ended' old mid new stream unused rest before after' written Q A B F stays done known last = so_far_breaks ended old mid new stream unused rest before after' written (stays known.0) done last
so_far_ends_by Write ended ended' old mid new stream unused rest before after' written Q A B F stays done known last = so_far_cut ended old mid new stream unused before after' written done last
so_far_ends_by NoMemory ended ended' old mid new stream unused rest before after' written Q A B F stays done known last = absurd last
so_far_ends_by TurnLimit ended ended' old mid new stream unused rest before after' written Q A B F stays done known last = so_far_breaks ended old mid new stream unused rest before after' written (stays known.0) done last

-- a count that has risen since a state has risen since an earlier one
risen_since : (a b c : ℕ) → a ≤ b → HasRisen b c → HasRisen a c
risen_since a b c kept risen = omega (arith, kept, risen)

-- where no turn is left, there were no more turns than octets read and faults counted
spent : (turns left : ℕ) (stream rest : Option (List ℕ)) (faults faults' : ℕ) → faults ≤ faults' → left ≡ 0 → TurnsGave turns left stream rest faults faults' → TurnsAreSpent turns stream rest faults faults'
spent turns left None rest faults faults' kept none gave = tt
spent turns left (Some s) None faults faults' kept none gave = absurd gave
spent turns left (Some s) (Some t) faults faults' kept none gave = either gave.1
  where
    either : (turns + length t + faults ≤ left + length s + faults') ⊎ (2 ^ 64 - 1 ≤ faults') → (turns ≤ (length s - length t) + (faults' - faults)) ⊎ (2 ^ 64 - 1 ≤ faults')
    either (inl few) = inl (omega (arith, few, none, gave.0, kept))
    either (inr many) = inr many

-- where no turn is left, all reads were made that were allowed
made : (turns left calls calls' : ℕ) → left ≡ 0 → CallsMade turns left calls calls' → ReadsAreMade turns calls calls'
made turns left calls calls' none counted = either counted.2
  where
    either : (calls + turns ≤ calls' + left) ⊎ (2 ^ 64 - 1 ≤ calls') → (calls + turns ≤ calls') ⊎ (2 ^ 64 - 1 ≤ calls')
    either (inl all) = inl (omega (arith, all, none))
    either (inr many) = inr many

-- the faults of the whole session, by those at its end
pub faults_by : {S : Type 0} (remaining : S → Option (List ℕ)) (fault_count call_count : S → ℕ) (first last : Input) (r s t : S) (v w x : ℕ) (end : SessionEnd) → Reads remaining fault_count call_count first last r t → fault_count r ≤ fault_count s → v ≤ w
    → MatchFault end ((last.ended ≡ false) × HasRisen (fault_count s) (fault_count t)) (HasRisen w x) ((last.ended ≡ false) × (last.turns ≡ 0))
    → MatchFault end (HasRisen (fault_count r) (fault_count t)) (HasRisen v x) (ReadsAreMade first.turns (call_count r) (call_count t) × TurnsAreSpent first.turns (remaining r) (remaining t) (fault_count r) (fault_count t))
faults_by remaining fault_count call_count first last r s t v w x Done reads kept below known = tt
faults_by remaining fault_count call_count first last r s t v w x Syntax reads kept below known = tt
faults_by remaining fault_count call_count first last r s t v w x Truncated reads kept below known = tt
faults_by remaining fault_count call_count first last r s t v w x Read reads kept below known = risen_since (fault_count r) (fault_count s) (fault_count t) kept known.1
faults_by remaining fault_count call_count first last r s t v w x Write reads kept below known = risen_since v w x below known
faults_by remaining fault_count call_count first last r s t v w x NoMemory reads kept below known = tt
faults_by remaining fault_count call_count first last r s t v w x TurnLimit reads kept below known =
    (made first.turns last.turns (call_count r) (call_count t) known.1 reads.calls_made, spent first.turns last.turns (remaining r) (remaining t) (fault_count r) (fault_count t) reads.faults_kept known.1 (reads.turns_gave known.0))
