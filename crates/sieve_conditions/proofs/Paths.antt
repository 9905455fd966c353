-- The names of the parts of an envelope.
use Rattle.std.proofs.Common.{◌≡◌, ℕ, Bool, true, false, ◌||◌, List, None, Some, is_some, refl, codes}
use Rattle.std.specs.Prelude.{if◌then◌else◌}
use Rattle.std.specs.Str.{str_eq_ignore_ascii_case}
use Rattle.sieve_table.specs.Address.{is_envelope_part}
use Rattle.sieve_conditions.specs.Matching.{envelope_text}
use Rattle.sieve_delivery.specs.declared.envelope.Envelope.{Envelope}

either_name : (first second : Bool) (from to : List ℕ) → is_some (if first then Some from else if second then Some to else None) ≡ (first || (second || false))
either_name true second from to = refl
either_name false true from to = refl
either_name false false from to = refl

pub named_parts : (envelope : Envelope) (name : List ℕ) → is_some (envelope_text envelope name) ≡ is_envelope_part name
unfolding is_envelope_part
named_parts envelope name = either_name (str_eq_ignore_ascii_case (codes "from") name) (str_eq_ignore_ascii_case (codes "to") name) envelope.from envelope.to
