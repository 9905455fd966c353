-- Names of mailboxes that are decided by their front.
use Rattle.std.proofs.Common.{◌≡◌, ℕ, ◌<◌, ◌≤◌, Bool, true, false, ◌&&◌, List, length, take, None, Some, refl, sym, ap, ◌∙◌, ⊎_elim, arith}
use Rattle.std.specs.Prelude.{nat_le, nat_lt, if◌then◌else◌}
use Rattle.std.specs.List.{list_all}
use Rattle.std.proofs.lemmas.Bool.{cases_lt}
use Rattle.std.proofs.lemmas.List.{length-take-le, take_all}
use Rattle.sieve_delivery.specs.Storing.{is_mailbox, is_no_control}
use Rattle.sieve_delivery.specs.view.Acting.{mailbox_named}
use Rattle.sieve_variables.specs.Part.{Part}
use Rattle.sieve_variables.specs.Value.{Values, text_value}

and_no : (a b : Bool) → (a && (false && b)) ≡ false
and_no true b = refl
and_no false b = refl

-- a name of more than 255 octets is no mailbox's
too_long : (name : List ℕ) → 255 < length name → is_mailbox name ≡ false
too_long name long = let no : nat_le (length name) 255 ≡ false = grind (arith, long) in
    ap (λ b. nat_lt 0 (length name) && (b && list_all is_no_control name)) no ∙ and_no (nat_lt 0 (length name)) (list_all is_no_control name)

-- A front of 256 octets is no mailbox's name, nor is the text that it is the front of. A shorter
-- front is the whole text.
front_told : (text : List ℕ) → is_mailbox (take 256 text) ≡ is_mailbox text
front_told text = ⊎_elim
    (λ (less : length text < 256). ap is_mailbox (take_all 256 text (omega arith)))
    (λ (most : 256 ≤ length text). let long = length-take-le 256 text most in too_long (take 256 text) (omega (arith, long)) ∙ sym (too_long text (omega arith)))
    (cases_lt (length text) 256)

front_whole : (text : List ℕ) → is_mailbox text ≡ true → take 256 text ≡ text
front_whole text is = ⊎_elim
    (λ (less : length text < 256). take_all 256 text (omega arith))
    (λ (most : 256 ≤ length text). let no = too_long text (omega arith) in cc)
    (cases_lt (length text) 256)

module _ (values : Values) (mailbox : List Part) (name : List ℕ) (front : name ≡ take 256 (text_value values mailbox)) where
  tells : is_mailbox name ≡ is_mailbox (text_value values mailbox)
  tells = ap is_mailbox front ∙ front_told (text_value values mailbox)

  -- if the front is a name of a mailbox, the string is that name
  pub front_found : is_mailbox name ≡ true → Some name ≡ mailbox_named values mailbox
  front_found is =
      let whole = sym tells ∙ is in
      ap Some (front ∙ front_whole (text_value values mailbox) whole) ∙ sym (ap (λ b. if b then Some (text_value values mailbox) else None) whole)

  -- if it isn't, the string names none
  pub front_missed : is_mailbox name ≡ false → None ≡ mailbox_named values mailbox
  front_missed is = sym (ap (λ b. if b then Some (text_value values mailbox) else None) (sym tells ∙ is))
