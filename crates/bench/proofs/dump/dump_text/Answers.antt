use Rattle.std.proofs.Common.{◌≡◌, ◌<◌, ◌≤◌, ◌⊎◌, ℕ, List, length, nat_lt, true, false, inl, inr, refl, arith}
use Rattle.std.proofs.lemmas.Bool.Decides.{nat_tests}
use Rattle.sieve_limits.specs.Limits.{name_limit, text_limit}
use Rattle.script_names.specs.declared.name.ScriptName.{ScriptName}
use Rattle.bench.specs.Dump.{is_too_large}
use Rattle.bench.proofs.dump.dump_text.Goals as goal

-- a name that is past its limit, or else a text that is past its own, is too large
too_large : (name : ScriptName) (octets text : List ℕ) → octets ≡ name.name → (name_limit < length octets) ⊎ ((length octets ≤ name_limit) × (text_limit < length text)) → is_too_large name text ≡ true
too_large name octets text is (inl long) =
    let more : name_limit < length name.name = rw is at long in
    let past : nat_lt name_limit (length name.name) ≡ true = grind (arith, nat_tests, more) in
    rw past refl
too_large name octets text is (inr both) =
    let short : length name.name ≤ name_limit = rw is at both.0 in
    let within : nat_lt name_limit (length name.name) ≡ false = grind (arith, nat_tests, short) in
    let past : nat_lt text_limit (length text) ≡ true = grind (arith, nat_tests, both.1) in
    rw (within, past) refl

pub returns-then-as_slice-gt-MAX_NAME : goal.returns-then-as_slice-gt-MAX_NAME
returns-then-as_slice-gt-MAX_NAME g c = (too_large c.args.name.now c.as_slice.result.now c.args.text.now c.as_slice.ensures c.then-as_slice-gt-MAX_NAME.either, refl)
