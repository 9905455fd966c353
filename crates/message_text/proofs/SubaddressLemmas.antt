-- User and detail of a local part.
use Rattle.std.proofs.Common.{◌≡◌, ℕ, suc, ◌+◌, ◌<◌, ◌≤◌, nat_lt, Bool, false, true, not, ◌||◌, List, [], ◌∷◌, ◌++◌, Option, None, Some, length, take, drop, get_or, unwrap_or, cond, refl, sym, ap, subst, ◌∙◌, arith}
use Rattle.std.specs.List.{All, after_first, list_any, position_or_len}
use Rattle.std.specs.Option.{option_and_then, option_map}
use Rattle.std.proofs.lemmas.Bool.{eqb-true, false_from_ne_true}
use Rattle.std.proofs.lemmas.Bool.Decides.{nat_tests}
use Rattle.std.proofs.lemmas.List.{get_or_default}
use Rattle.std.proofs.lemmas.List.Folds.{list_any_at, list_any_none}
use Rattle.std.proofs.lemmas.List.Sums.{fails_before_first, passes_at_first, position_or_len_is, split_at_first}
use Rattle.memchr.specs.Find.{IsFirstByte, NoneBefore, Nowhere, Passes, is_byte}
use Rattle.octets.specs.Octet.{octet_of}
use Rattle.message_text.specs.Addresses.{SubpartsJoin, UserJoins, detail_in, is_separator, user_in}

abbrev Separator : List ℕ → ℕ → Type 0
Separator local_part = Passes (is_byte (octet_of "+")) local_part

-- a place of a separator before which there is none is the first
place : (local_part : List ℕ) (k : ℕ) → NoneBefore (Separator local_part) 0 (length local_part) k → Separator local_part k → position_or_len is_separator local_part ≡ k
place local_part k first here =
    let within = first.high in
    position_or_len_is is_separator local_part k 0 (omega arith)
    (λ j below. false_from_ne_true _ (λ is. first.before j (omega arith) below is)) (λ _. here)

end_of : (local_part : List ℕ) (found : Option ℕ) → IsFirstByte (is_byte (octet_of "+")) local_part found → position_or_len is_separator local_part ≡ unwrap_or found (length local_part)
end_of local_part None nowhere =
    position_or_len_is is_separator local_part (length local_part) 0 (omega arith)
    (λ j below. false_from_ne_true _ (λ is. nowhere j (omega arith) below is)) (λ below. absurd (omega arith))
end_of local_part (Some k) (first, here) = place local_part k first here

pub user_is : (local_part : List ℕ) (found : Option ℕ) → IsFirstByte (is_byte (octet_of "+")) local_part found → take (unwrap_or found (length local_part)) local_part ≡ user_in local_part
user_is local_part found first = ap (λ n. take n local_part) (sym (end_of local_part found first))

pub no_detail : (local_part : List ℕ) → Nowhere (Separator local_part) 0 (length local_part) → None ≡ detail_in local_part
no_detail local_part nowhere =
    let Plain : ℕ → Type 0 = λ b. is_separator b ≡ true in
    let each : All (λ b. is_separator b ≡ false) local_part =
    λ k d below. false_from_ne_true _ (λ is. nowhere k (omega arith) below (subst Plain (get_or_default local_part k d 0 below) is)) in
    ap (λ b. cond b (Some (after_first is_separator local_part)) None) (sym (list_any_none is_separator local_part each))

pub detail_is : (local_part : List ℕ) (k : ℕ) → NoneBefore (Separator local_part) 0 (length local_part) k → Separator local_part k → Some (drop (k + 1) local_part) ≡ detail_in local_part
detail_is local_part k first here =
    let within = first.high in
    ap (λ n. Some (drop (n + 1) local_part)) (sym (place local_part k first here))
    ∙ ap (λ b. cond b (Some (after_first is_separator local_part)) None) (sym (list_any_at is_separator local_part k 0 within here))

-- user and detail join to the local part

found_by : (local_part : List ℕ) (b : Bool) → nat_lt (position_or_len is_separator local_part) (length local_part) ≡ b → list_any is_separator local_part ≡ true → position_or_len is_separator local_part < length local_part
found_by local_part true within any = grind (arith, nat_tests, within)
found_by local_part false beyond any =
    let after : length local_part ≤ position_or_len is_separator local_part = grind (arith, nat_tests, beyond) in
    let Plain : ℕ → Type 0 = λ b. is_separator b ≡ false in
    let each : All (λ b. is_separator b ≡ false) local_part =
    λ k d below. subst Plain (sym (get_or_default local_part k d 0 below)) (fails_before_first is_separator local_part k 0 (omega arith)) in
    let none : true ≡ false = sym any ∙ list_any_none is_separator local_part each in
    absurd cc

-- a local part with a separator is its user, the separator and its detail
pub apart : (local_part : List ℕ) → list_any is_separator local_part ≡ true → local_part ≡ user_in local_part ++ octet_of "+" ∷ after_first is_separator local_part
apart local_part any =
    let within = found_by local_part (nat_lt (position_or_len is_separator local_part) (length local_part)) refl any in
    let octet = get_or local_part (position_or_len is_separator local_part) 0 in
    split_at_first is_separator local_part 0 within
    ∙ ap (λ one. user_in local_part ++ one ∷ after_first is_separator local_part) (eqb-true octet (octet_of "+") (passes_at_first is_separator local_part 0 within))

plain_step : (octet : ℕ) (rest : List ℕ) (b : Bool) → is_separator octet ≡ b → list_any is_separator (user_in rest) ≡ false → list_any is_separator (take (cond (not b) (1 + position_or_len is_separator rest) 0) (octet ∷ rest)) ≡ false
plain_step octet rest true is after = refl
plain_step octet rest false is after =
    let next : 1 + position_or_len is_separator rest ≡ suc (position_or_len is_separator rest) = omega arith in
    ap (λ n. list_any is_separator (take n (octet ∷ rest))) next ∙ ap (λ b. b || list_any is_separator (user_in rest)) is ∙ after

-- no separator stands in a user
pub user_plain : (local_part : List ℕ) → list_any is_separator (user_in local_part) ≡ false
user_plain [] = refl
user_plain (octet ∷ rest) = plain_step octet rest (is_separator octet) refl (user_plain rest)

whole_step : (octet : ℕ) (rest : List ℕ) (b : Bool) → is_separator octet ≡ b → (b || list_any is_separator rest) ≡ false → (list_any is_separator rest ≡ false → user_in rest ≡ rest) → take (cond (not b) (1 + position_or_len is_separator rest) 0) (octet ∷ rest) ≡ octet ∷ rest
whole_step octet rest true is none after = absurd cc
whole_step octet rest false is none after =
    let next : 1 + position_or_len is_separator rest ≡ suc (position_or_len is_separator rest) = omega arith in
    ap (λ n. take n (octet ∷ rest)) next ∙ ap (λ one. octet ∷ one) (after none)

-- a local part without a separator is its user
pub user_whole : (local_part : List ℕ) → list_any is_separator local_part ≡ false → user_in local_part ≡ local_part
user_whole [] none = refl
user_whole (octet ∷ rest) none = whole_step octet rest (is_separator octet) refl none (user_whole rest)

joined_by : (local_part : List ℕ) (b : Bool) → list_any is_separator local_part ≡ b → UserJoins local_part (user_in local_part) (cond b (Some (after_first is_separator local_part)) None)
joined_by local_part true any = (apart local_part any, user_plain local_part)
joined_by local_part false none = (user_whole local_part none, user_plain local_part)

pub parts_joined : (local_part : Option (List ℕ)) → SubpartsJoin local_part (option_map user_in local_part) (option_and_then detail_in local_part)
parts_joined None = tt
parts_joined (Some local_part) = joined_by local_part (list_any is_separator local_part) refl
