-- The addresses of a value's pieces, one by one.
use Rattle.std.proofs.Common.{◌≡◌, ℕ, ◌+◌, ◌<◌, List, [], ◌∷◌, ◌++◌, Option, None, Some, length, drop, get_or, refl, sym, ap, ◌∙◌, append_assoc, arith}
use Rattle.std.specs.List.{cons_option, filter_map, slice_split}
use Rattle.std.specs.Option.{option_to_list}
use Rattle.std.proofs.lemmas.List.{append-nil, drop_all, drop_more}
use Rattle.message_text.specs.Addresses.{AddrSpec, address_in, addresses_of, marks_of, separates}
use Rattle.message_text.specs.declared.marks.Marked.{Marked}

-- the pieces of a value
abbrev pub pieces_of : List ℕ → List (List Marked)
pieces_of value = slice_split separates (marks_of value)

pub addresses-first : (value : List ℕ) → filter_map address_in (pieces_of value) ≡ addresses_of value
unfolding addresses_of
addresses-first value = refl

one_more : {X : Type 0} (so_far rest : List X) (one : Option X) → (so_far ++ option_to_list one) ++ rest ≡ so_far ++ cons_option one rest
one_more so_far rest None = ap (λ front. front ++ rest) (append-nil so_far)
one_more so_far rest (Some x) = append_assoc so_far (x ∷ []) rest

pub addresses-more : (so_far new all : List AddrSpec) (pieces : List (List Marked)) (n : ℕ) (piece : List Marked) → n < length pieces → piece ≡ get_or pieces n piece → new ≡ so_far ++ option_to_list (address_in piece) → so_far ++ filter_map address_in (drop n pieces) ≡ all → new ++ filter_map address_in (drop (n + 1) pieces) ≡ all
addresses-more so_far new all pieces n piece within at is so =
    let others = filter_map address_in (drop (n + 1) pieces) in
    ap (λ (front : List AddrSpec). front ++ others) is ∙ one_more so_far others (address_in piece)
    ∙ ap (λ (rest : List (List Marked)). so_far ++ filter_map address_in rest) (ap (λ (one : List Marked). one ∷ drop (n + 1) pieces) at ∙ sym (drop_more pieces n piece within))
    ∙ so

pub addresses-end : (so_far all : List AddrSpec) (pieces : List (List Marked)) (n : ℕ) → length pieces ≡ n → so_far ++ filter_map address_in (drop n pieces) ≡ all → so_far ≡ all
addresses-end so_far all pieces n is so =
    sym (append-nil so_far) ∙ ap (λ (rest : List (List Marked)). so_far ++ filter_map address_in rest) (sym (drop_all n pieces (omega arith))) ∙ so
