-- The octets that a session has read and not yet used.
use Rattle.std.specs.Prelude.{◌≡◌, ⊤, ℕ, Bool, false, IsTrue, ◌+◌, ◌-◌, ◌*◌, ◌^◌, ◌≤◌, ◌⊎◌, List, length, Option, None, Some}
use Rattle.std.specs.Io.KnownBytes.{prepend_known, IsAtEnd}

-- The octets that are read and not used, and how many reads may still be made. And whether a read
-- has come to the end.
pub record Input : Type 0 where
  pub pending : List ℕ
  pub turns : ℕ
  pub ended : Bool

-- how many octets the buffer holds
abbrev pub capacity : ℕ
capacity = 65536

-- the octets that are not used, read or not, where the device says what it has left
abbrev pub unused : Input → Option (List ℕ) → Option (List ℕ)
unused input remaining = prepend_known input.pending remaining

-- where a read has come to the end, the device has nothing left
abbrev pub Knows : Input → Option (List ℕ) → Type 0
Knows input remaining = IsTrue input.ended → IsAtEnd remaining

-- A number that falls with each octet that is used, and with each read.
abbrev pub fuel : Input → ℕ
fuel input = input.turns * (capacity + 1) + length input.pending

-- No more turns were taken than octets were given and faults counted. This is so where the device
-- says which octets it has left. A count that stands at the greatest u64 counts no more.
abbrev pub TurnsGave : ℕ → ℕ → Option (List ℕ) → Option (List ℕ) → ℕ → ℕ → Type 0
TurnsGave before after None left faults faults' = ⊤
TurnsGave before after (Some stream) None faults faults' = ⊥
TurnsGave before after (Some stream) (Some left) faults faults' =
    (length left ≤ length stream) × ((before + length left + faults ≤ after + length stream + faults') ⊎ (2 ^ 64 - 1 ≤ faults'))

-- As many turns were taken as calls of the device were made. A count that stands at the greatest
-- u64 counts no more.
abbrev pub CallsMade : ℕ → ℕ → ℕ → ℕ → Type 0
CallsMade before after calls calls' = (after ≤ before) × (calls' + after ≤ calls + before) × ((calls + before ≤ calls' + after) ⊎ (2 ^ 64 - 1 ≤ calls'))

-- Between two states of an input and its device, as many turns were taken as the device was called.
-- Where none has come to the end, there were no more turns than octets given and faults counted.
pub record Reads {S : Type 0} (remaining : S → Option (List ℕ)) (fault_count call_count : S → ℕ) (before after : Input) (old new : S) : Type 0 where
  pub faults_kept : fault_count old ≤ fault_count new
  pub calls_made : CallsMade before.turns after.turns (call_count old) (call_count new)
  pub stays_ended : after.ended ≡ false → before.ended ≡ false
  pub turns_gave : after.ended ≡ false → TurnsGave before.turns after.turns (remaining old) (remaining new) (fault_count old) (fault_count new)
