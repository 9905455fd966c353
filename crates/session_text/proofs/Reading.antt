-- How reads change the turns and the counts of a device.
use Rattle.std.proofs.Common.{◌≡◌, ℕ, ◌+◌, ◌-◌, ◌^◌, ◌<◌, ◌≤◌, ◌⊎◌, inl, inr, Bool, false, List, length, length-append, ap, sym, arith, Option, None, Some, true, ◌∙◌}
use Rattle.std.proofs.lemmas.Bool.{cases_lt}
use Rattle.std.specs.Io.KnownBytes.{Consumes, Keeps}
use Rattle.devices.specs.Devices.{HasRisen}
use Rattle.session_text.specs.view.Input.{CallsMade, Input, Reads, TurnsGave}

-- where no turn is taken, no octet need be given and no fault counted
gave_nothing : (t : ℕ) (r : Option (List ℕ)) (f : ℕ) → TurnsGave t t r r f f
gave_nothing t None f = tt
gave_nothing t (Some xs) f = (omega arith, inl (omega arith))

-- turns that gave octets or faults, and then others, are turns that gave all of these
gave_both : (t u v : ℕ) (r s q : Option (List ℕ)) (f g h : ℕ) → g ≤ h → TurnsGave t u r s f g → TurnsGave u v s q g h → TurnsGave t v r q f h
gave_both t u v None s q f g h kept first second = tt
gave_both t u v (Some xs) None q f g h kept first second = absurd first
gave_both t u v (Some xs) (Some ys) None f g h kept first second = absurd second
gave_both t u v (Some xs) (Some ys) (Some zs) f g h kept first second = (omega (arith, first.0, second.0), either first.1 second.1)
  where
    either : (t + length ys + f ≤ u + length xs + g) ⊎ (2 ^ 64 - 1 ≤ g) → (u + length zs + g ≤ v + length ys + h) ⊎ (2 ^ 64 - 1 ≤ h)
        → (t + length zs + f ≤ v + length xs + h) ⊎ (2 ^ 64 - 1 ≤ h)
    either (inl p) (inl q) = inl (omega (arith, p, q))
    either (inr p) q = inr (omega (arith, p, kept))
    either (inl p) (inr q) = inr q

-- a turn whose read gave octets
pub gave_octets : (t u : ℕ) (r s : Option (List ℕ)) (f g : ℕ) (octets : List ℕ) → Consumes r s octets → 0 < length octets → u + 1 ≡ t → f ≤ g → TurnsGave t u r s f g
gave_octets t u None s f g octets read some one kept = tt
gave_octets t u (Some xs) None f g octets read some one kept = absurd read
gave_octets t u (Some xs) (Some ys) f g octets read some one kept =
    let size : length xs ≡ length octets + length ys = ap length read ∙ length-append octets ys in
    (omega (arith, size), inl (omega (arith, size, some, one, kept)))

-- a turn whose read counted a fault
pub gave_fault : (t u : ℕ) (r s : Option (List ℕ)) (f g : ℕ) → Keeps r s → u + 1 ≡ t → HasRisen f g → TurnsGave t u r s f g
gave_fault t u None s f g same one risen = tt
gave_fault t u (Some xs) None f g same one risen = absurd same
gave_fault t u (Some xs) (Some ys) f g same one risen =
    let size : length ys ≡ length xs = ap length same in
    (omega (arith, size), counted (cases_lt f (2 ^ 64 - 1)))
  where
    counted : (f < 2 ^ 64 - 1) ⊎ (2 ^ 64 - 1 ≤ f) → (t + length ys + f ≤ u + length xs + g) ⊎ (2 ^ 64 - 1 ≤ g)
    counted (inl less) = inl (omega (arith, ap length same, one, risen, less))
    counted (inr more) = inr (omega (arith, risen, more))

-- the calls of some turns, and then those of others, are the calls of all of them
calls_both : (t u v c d e : ℕ) → CallsMade t u c d → CallsMade u v d e → CallsMade t v c e
calls_both t u v c d e first second = (omega (arith, first.0, second.0), omega (arith, first.1, second.1), either first.2 second.2)
  where
    either : (c + t ≤ d + u) ⊎ (2 ^ 64 - 1 ≤ d) → (d + u ≤ e + v) ⊎ (2 ^ 64 - 1 ≤ e) → (c + t ≤ e + v) ⊎ (2 ^ 64 - 1 ≤ e)
    either (inl p) (inl q) = inl (omega (arith, p, q))
    either (inl p) (inr q) = inr q
    either (inr p) (inl q) = inr (omega (arith, p, q, second.0))
    either (inr p) (inr q) = inr q

-- where nothing is read, no turn is taken and no call is made
pub reads_nothing : {S : Type 0} (remaining : S → Option (List ℕ)) (fault_count call_count : S → ℕ) (i : Input) (s : S) → Reads remaining fault_count call_count i i s s
reads_nothing remaining fault_count call_count i s = record {
  faults_kept = omega arith;
  calls_made = (omega arith, omega arith, inl (omega arith));
  stays_ended = λ is. is;
  turns_gave = λ is. gave_nothing i.turns (remaining s) (fault_count s);
}

-- some reads, and then others, are reads between the first state and the last
pub reads_both : {S : Type 0} (remaining : S → Option (List ℕ)) (fault_count call_count : S → ℕ) (i j k : Input) (s t u : S)
    → Reads remaining fault_count call_count i j s t → Reads remaining fault_count call_count j k t u → Reads remaining fault_count call_count i k s u
reads_both remaining fault_count call_count i j k s t u first second = record {
  faults_kept = omega (arith, first.faults_kept, second.faults_kept);
  calls_made = calls_both i.turns j.turns k.turns (call_count s) (call_count t) (call_count u) first.calls_made second.calls_made;
  stays_ended = λ is. first.stays_ended (second.stays_ended is);
  turns_gave = λ is. gave_both i.turns j.turns k.turns (remaining s) (remaining t) (remaining u) (fault_count s) (fault_count t) (fault_count u) second.faults_kept (first.turns_gave (second.stays_ended is)) (second.turns_gave is);
}

-- the reads don't depend on which of the octets are used
pub reads_used : {S : Type 0} (remaining : S → Option (List ℕ)) (fault_count call_count : S → ℕ) (i j k : Input) (s t : S)
    → Reads remaining fault_count call_count i j s t → k.turns ≡ j.turns → k.ended ≡ j.ended → Reads remaining fault_count call_count i k s t
reads_used remaining fault_count call_count i j k s t reads turns ended = record {
  faults_kept = reads.faults_kept;
  calls_made = rw turns reads.calls_made;
  stays_ended = λ is. reads.stays_ended (sym ended ∙ is);
  turns_gave = λ is. rw turns (reads.turns_gave (sym ended ∙ is));
}

both : (b : Bool) → b ≡ true → b ≡ false → ⊥
both b is not = cc

-- a read that came to the end
pub reads_end : {S : Type 0} (remaining : S → Option (List ℕ)) (fault_count call_count : S → ℕ) (i j : Input) (s t : S)
    → fault_count s ≤ fault_count t → CallsMade i.turns j.turns (call_count s) (call_count t) → j.ended ≡ true → Reads remaining fault_count call_count i j s t
reads_end remaining fault_count call_count i j s t kept calls ended = record {
  faults_kept = kept;
  calls_made = calls;
  stays_ended = λ is. absurd (both j.ended ended is);
  turns_gave = λ is. absurd (both j.ended ended is);
}

-- a read that gave octets, or counted a fault
pub reads_one : {S : Type 0} (remaining : S → Option (List ℕ)) (fault_count call_count : S → ℕ) (i j : Input) (s t : S)
    → fault_count s ≤ fault_count t → CallsMade i.turns j.turns (call_count s) (call_count t) → j.ended ≡ i.ended
    → TurnsGave i.turns j.turns (remaining s) (remaining t) (fault_count s) (fault_count t) → Reads remaining fault_count call_count i j s t
reads_one remaining fault_count call_count i j s t kept calls ended gave = record {
  faults_kept = kept;
  calls_made = calls;
  stays_ended = λ is. sym ended ∙ is;
  turns_gave = λ is. gave;
}

pub ruleset reading = (gave_octets, gave_fault, reads_nothing, reads_both, reads_used, reads_end, reads_one)
