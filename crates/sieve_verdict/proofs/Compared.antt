-- The octets that a device takes when it compares a line with them. Also that it then says whether
-- they are the line.
use Rattle.std.proofs.Common.{◌≡◌, ℕ, suc, ◌+◌, ◌<◌, ◌≤◌, true, false, not, ◌⊎◌, inl, inr, nat_eq, List, [], ◌∷◌, ◌++◌, length, drop, take, get_or, Option, None, Some, is_some, Result, Ok, Err, refl, sym, ap, ◌∙◌, append_assoc, append-nil, take-append-drop, eq-eqb, eqb-true, arith}
use Rattle.std.proofs.lemmas.Bool.Decides.{same_from_decides}
use Rattle.std.proofs.lemmas.List.{append_cancel_left, drop_at, drop_more, length-drop, length-take-le, take_all, take_at, take_more}
use Rattle.std.proofs.lemmas.Slice.Eq.{bytes_eq-Decides}
use Rattle.std.specs.Bool.{Decides}
use lib.Pointwise.{pointwise}
use Rattle.devices.specs.Writers.{Writes}
use Rattle.sieve_verdict.specs.declared.comparing.Comparing.{Comparing}
use Rattle.sieve_verdict.specs.view.Comparing.{begins_with, held, is_apart, is_whole, written}

-- OCTETS IN TURN

-- the first octet of some octets
pub first_octet : (bytes : List ℕ) → 0 < length bytes → take 1 bytes ≡ get_or bytes 0 0 ∷ []
first_octet [] some = absurd (omega arith)
first_octet (octet ∷ bytes) some = refl

-- an octet that is next in the line is taken as an octet of the line
next_taken : (line : List ℕ) (taken octet : ℕ) → begins_with octet (drop taken line) ≡ true
    → (taken < length line) × (take (taken + 1) line ≡ take taken line ++ octet ∷ [])
next_taken line taken octet starts = by (drop taken line) refl starts
  where
    by : (left : List ℕ) → drop taken line ≡ left → begins_with octet left ≡ true → (taken < length line) × (take (taken + 1) line ≡ take taken line ++ octet ∷ [])
    by [] is starts = absurd (let e : false ≡ true = starts in cc)
    by (first ∷ left) is starts =
        let within : taken < length line = omega (arith, length-drop taken line, ap length is) in
        let there : get_or line taken 0 ∷ drop (taken + 1) line ≡ first ∷ left = sym (drop_more line taken 0 within) ∙ is in
        let same : first ≡ octet = eqb-true first octet starts in
        let next : get_or line taken 0 ≡ octet = cc in
        (within, take_more line taken 0 within ∙ ap (λ o. take taken line ++ o ∷ []) next)

pub taken_more : (line bytes : List ℕ) (taken : ℕ) (other : Option ℕ) (octet : ℕ) → is_some other ≡ false → begins_with octet (drop taken line) ≡ true → take 1 bytes ≡ octet ∷ []
    → held line (taken + 1) other ≡ held line taken other ++ take 1 bytes
unfolding held
taken_more line bytes taken None octet none starts one =
    ap (λ t. (length line ∷ line) ++ t) ((next_taken line taken octet starts).1 ∙ ap (λ o. take taken line ++ o) (sym one))
    ∙ sym (append_assoc (length line ∷ line) (take taken line) (take 1 bytes))
taken_more line bytes taken (Some other) octet none starts one = absurd (let e : true ≡ false = none in cc)

-- an octet that isn't next in the line is kept apart
pub other_taken : (line bytes : List ℕ) (taken : ℕ) (other : Option ℕ) (octet : ℕ) → is_some other ≡ false → take 1 bytes ≡ octet ∷ [] → held line taken (Some octet) ≡ held line taken other ++ take 1 bytes
unfolding held
other_taken line bytes taken None octet none one =
    ap (λ o. (length line ∷ line) ++ (take taken line ++ o)) (sym one) ∙ sym (append_assoc (length line ∷ line) (take taken line) (take 1 bytes))
other_taken line bytes taken (Some other) octet none one = absurd (let e : true ≡ false = none in cc)

-- THE WRITTEN TEXT

-- two equal texts of two parts each, whose first parts are equally long, have equal parts
same_parts : (a b s t : List ℕ) → length a ≡ length b → a ++ s ≡ b ++ t → (a ≡ b) × (s ≡ t)
same_parts a b s t long is =
    (sym (take_at a s (length a) refl) ∙ ap (take (length a)) is ∙ take_at b t (length a) (sym long), sym (drop_at a s (length a) refl) ∙ ap (drop (length a)) is ∙ drop_at b t (length a) (sym long))

-- The device says whether a text is the line. The text is the octets that were written and those
-- that weren't. If some weren't written, a write failed.
decided : (line text back : List ℕ) (taken : ℕ) (other : Option ℕ) (faults : ℕ) → taken ≤ length line → is_apart other (drop taken line) faults ≡ true → (back ≡ []) ⊎ (1 ≤ faults)
    → written line taken other ++ back ≡ text → Decides (is_whole line taken other) (line ≡ text)
decided line text back taken None faults within apart (inl none) is =
    let all : take taken line ≡ text = sym (append-nil (take taken line)) ∙ ap (λ b. take taken line ++ b) (sym none) ∙ is in (
      λ whole. (let end : taken ≡ length line = eqb-true taken (length line) whole in sym (take_all taken line (omega arith)) ∙ all),
      λ same. eq-eqb taken (length line) (sym (length-take-le taken line within) ∙ ap length (all ∙ sym same)),
    )
decided line text back taken None faults within apart (inr some) is = let none : faults ≡ 0 = eqb-true faults 0 apart in absurd (omega arith)
decided line text back taken (Some octet) faults within apart some is = (
  λ whole. absurd (let e : false ≡ true = whole in cc),
  λ same. (
      let next : drop taken line ≡ octet ∷ back =
      append_cancel_left (take taken line) (drop taken line) (octet ∷ back) (take-append-drop taken line ∙ same ∙ sym is ∙ append_assoc (take taken line) (octet ∷ []) back) in
      let starts : begins_with octet (drop taken line) ≡ true = ap (begins_with octet) next ∙ eq-eqb octet octet refl in
      sym (ap not starts) ∙ apart),
)

-- the same for the line that the device had before, which it still has
told : (line text back now : List ℕ) (taken : ℕ) (other : Option ℕ) (faults : ℕ) → taken ≤ length now → is_apart other (drop taken now) faults ≡ true → (back ≡ []) ⊎ (1 ≤ faults)
    → held now taken other ++ back ≡ held line 0 None ++ text → is_whole now taken other ≡ pointwise nat_eq line text
unfolding held
told line text back now taken other faults within apart some is =
    let whole : (length now ∷ now) ++ (written now taken other ++ back) ≡ (length line ∷ line) ++ text =
    sym (append_assoc (length now ∷ now) (written now taken other) back) ∙ is ∙ append_assoc (length line ∷ line) [] text in
    let long : length now ≡ length line = ap (λ l. get_or l 0 0) whole in
    let parts : ((length now ∷ now) ≡ (length line ∷ line)) × (written now taken other ++ back ≡ text) =
    same_parts (length now ∷ now) (length line ∷ line) (written now taken other ++ back) text (ap suc long) whole in
    let same : now ≡ line = ap (drop 1) parts.0 in
    same_from_decides (is_whole now taken other) (pointwise nat_eq now text) (decided now text back taken other faults within apart some parts.1) (bytes_eq-Decides now text)
    ∙ ap (λ l. pointwise nat_eq l text) same

-- After a text was written to a device that compares a line with it, the device decides. It says
-- whether the text is the line.
pub tells : {T E : Type 0} (line text : List ℕ) (answer : Result T E) (old new : Comparing) → held old.line.now old.taken old.other ≡ held line 0 None → old.faults ≡ 0
    → Writes (λ (c : Comparing). Some (held c.line.now c.taken c.other)) (λ (c : Comparing). c.faults) answer old new text
    → is_whole new.line.now new.taken new.other ≡ pointwise nat_eq line text
tells line text (Ok done) old new fresh none wrote =
    told line text [] new.line.now new.taken new.other new.faults new.within new.apart (inl refl)
    (append-nil (held new.line.now new.taken new.other) ∙ wrote.text_appended ∙ ap (λ h. h ++ text) fresh)
tells line text (Err fault) old new fresh none front =
    let risen : 1 ≤ new.faults = rw none at front.fault_counted in
    told line text front.back new.line.now new.taken new.other new.faults new.within new.apart (inr risen)
    (ap (λ h. h ++ front.back) (front.front_appended ∙ ap (λ h. h ++ front.front) fresh) ∙ append_assoc (held line 0 None) front.front front.back ∙ ap (λ t. held line 0 None ++ t) front.whole)
