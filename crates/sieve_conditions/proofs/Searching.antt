-- The match values of one value, among those of all values.
use Rattle.std.proofs.Common.{◌≡◌, ℕ, zero, suc, ◌+◌, Bool, true, false, List, [], ◌∷◌, ◌++◌, map, drop, Option, None, Some, Result, refl, subst, sym, ap, ◌∙◌, add-one}
use Rattle.std.specs.Prelude.{IfOk, option_to_list}
use Rattle.std.specs.List.{cons_option, filter_map, flat_map, fold, slice_get}
use Rattle.std.specs.Option.{option_and_then, option_or}
use Rattle.sieve_profile.specs.Profile.{Profile}
use Rattle.message_text.specs.Addresses.{AddrSpec, part_of_address, part_of_path}
use Rattle.message_text.specs.Fields.{Field}
use Rattle.message_text.specs.declared.addressing.AddressPart.{AddressPart}
use Rattle.sieve_script.specs.Reading.{ValueSource, body_values, clock_values, date_values, envelope_values, field_values, flag_values, string_values}
use Rattle.sieve_variables.specs.Part.{Part}
use Rattle.sieve_variables.specs.Value.{text_value}
use Rattle.sieve_script.specs.declared.reading.Comparison.{Comparison}
use Rattle.sieve_delivery.specs.Delivery.{Delivery, envelope_of}
use Rattle.flag_lists.specs.Flags.{flag_keys_of_texts, flag_list}
use Rattle.sieve_delivery.specs.State.{RunState}
use Rattle.packed_strings.proofs.Joining.{get_map}
use Rattle.sieve_conditions.specs.Matching.{compared_of, envelope_named, envelope_text, first_match, first_some, match_found, match_of, pairs_with, parts_of_envelope, values_in, values_of, keys_from, keys_of}
use Rattle.sieve_conditions.specs.declared.field_values.Finder.{Finder}
use Rattle.sieve_conditions.specs.view.FieldTests.{cut_key, cuts_keys, found_after, found_with, part_found, path_found, path_name_found}

-- an element to which two functions are applied
pub made_twice : {W X Y : Type 0} (g : W → X) (h : X → Y) (ws : List W) (i : ℕ) (w : W) (y : Y) → slice_get ws i ≡ Some w → slice_get (map h (map g ws)) i ≡ Some y → y ≡ h (g w)
made_twice g h ws i w y at is = let same = sym (get_map h (map g ws) i (g w) (get_map g ws i w at)) ∙ is in cc

-- if `x` is `y`, an answer that found `x` found `y`
pub answers_so : {A E : Type 0} (answer : Result A E) (x y : A) → x ≡ y → IfOk answer (λ found. found ≡ x) → IfOk answer (λ found. found ≡ y)
answers_so answer x y same is = subst (λ b. IfOk answer (λ found. found ≡ b)) same is

-- IN TURN

pub or_in_turn : {Y : Type 0} (a b c : Option Y) → option_or (option_or a b) c ≡ option_or a (option_or b c)
or_in_turn None b c = refl
or_in_turn (Some y) b c = refl

-- The element at a place gives match values, or else those after it do. They are those of the
-- elements from that place on.
pub first_from : {X Y : Type 0} (f : X → Option Y) (xs : List X) (i : ℕ) (o : Option Y) → slice_get (map f xs) i ≡ Some o → option_or o (first_some f (drop (i + 1) xs)) ≡ first_some f (drop i xs)
first_from {X = X} f xs i o at = ap (λ n. option_or o (first_some f (drop n xs))) (add-one i) ∙ by xs i at
  where
    by : (ys : List X) (k : ℕ) → slice_get (map f ys) k ≡ Some o → option_or o (first_some f (drop (suc k) ys)) ≡ first_some f (drop k ys)
    by [] k is = cc
    by (y ∷ ys) zero is = let first : f y ≡ o = cc in ap (λ a. option_or a (first_some f ys)) (sym first)
    by (y ∷ ys) (suc k) is = by ys k is

first_append : {X Y : Type 0} (f : X → Option Y) (xs ys : List X) → first_some f (xs ++ ys) ≡ option_or (first_some f xs) (first_some f ys)
first_append f [] ys = refl
first_append f (x ∷ xs) ys = ap (option_or (f x)) (first_append f xs ys) ∙ sym (or_in_turn (f x) (first_some f xs) (first_some f ys))

pub first_flat : {X Y Z : Type 0} (f : Y → Option Z) (g : X → List Y) (xs : List X) → first_some f (flat_map g xs) ≡ first_some (λ x. first_some f (g x)) xs
first_flat f g [] = refl
first_flat f g (x ∷ xs) = first_append f (g x) (flat_map g xs) ∙ ap (option_or (first_some f (g x))) (first_flat f g xs)

pub first_map : {X Y Z : Type 0} (f : Y → Option Z) (g : X → Y) (xs : List X) → first_some f (map g xs) ≡ first_some (λ x. f (g x)) xs
first_map f g [] = refl
first_map f g (x ∷ xs) = ap (option_or (f (g x))) (first_map f g xs)

pub first_same : {X Y : Type 0} (f g : X → Option Y) → ((x : X) → f x ≡ g x) → (xs : List X) → first_some f xs ≡ first_some g xs
first_same f g same [] = refl
first_same f g same (x ∷ xs) = ap (λ o. option_or o (first_some f xs)) (same x) ∙ ap (option_or (g x)) (first_same f g same xs)

pub or_none : {Y : Type 0} (o : Option Y) → option_or o None ≡ o
or_none None = refl
or_none (Some y) = refl

-- VALUES

module _ (find : List ℕ → Option (List (List ℕ))) where
  one_part : (o : Option (List ℕ)) (octets : List (List ℕ)) → first_some find (cons_option o octets) ≡ option_or (option_and_then find o) (first_some find octets)
  one_part None octets = refl
  one_part (Some x) octets = refl

  -- the parts of addresses give the match values that the addresses give
  pub first_part : (part : AddressPart) (addresses : List AddrSpec) → first_some find (filter_map (part_of_address part) addresses) ≡ first_some (part_found find part) addresses
  first_part part [] = refl
  first_part part (address ∷ addresses) = one_part (part_of_address part address) (filter_map (part_of_address part) addresses) ∙ ap (option_or (part_found find part address)) (first_part part addresses)

  -- the match values of one value that may be there
  pub first_of_one : (o : Option (List ℕ)) → first_some find (option_to_list o) ≡ option_and_then find o
  first_of_one None = refl
  first_of_one (Some x) = or_none (find x)

  first_of_path : (part : AddressPart) (path : Option (List ℕ)) → first_some find (parts_of_envelope part path) ≡ option_and_then (path_found find part) path
  first_of_path part None = refl
  first_of_path part (Some text) = first_of_one (part_of_path part text)

  pub first_of_paths : (part : AddressPart) (delivery : Delivery) (state : RunState) (names : List (List Part)) → first_some find (values_of delivery state (envelope_values part names)) ≡ first_some (path_name_found find part (envelope_of delivery.arrival)) (map (text_value state.values) names)
  first_of_paths part delivery state names =
      first_flat find (envelope_named part (envelope_of delivery.arrival)) (map (text_value state.values) names)
      ∙ first_same (λ name. first_some find (envelope_named part (envelope_of delivery.arrival) name)) (path_name_found find part (envelope_of delivery.arrival)) (λ name. first_of_path part (envelope_text (envelope_of delivery.arrival) name)) (map (text_value state.values) names)

-- the match values found after some fields are those that their values give
pub all_found : (profile : Profile) (part : Option AddressPart) (fields : List Field) (finder : Finder)
    → (fold (found_after profile part) finder fields).found ≡ option_or finder.found (first_some (found_with finder.matcher.now) (flat_map (values_in profile part) fields))
all_found profile part [] finder = sym (or_none finder.found)
all_found profile part (field ∷ fields) finder =
    let find = found_with finder.matcher.now in
    all_found profile part fields (found_after profile part finder field)
    ∙ or_in_turn finder.found (first_some find (values_in profile part field)) (first_some find (flat_map (values_in profile part) fields))
    ∙ ap (option_or finder.found) (sym (first_append find (values_in profile part field) (flat_map (values_in profile part) fields)))

-- the flags in the texts of a flag test's variables give the match values of the test's source
module _ (find : List ℕ → Option (List (List ℕ))) (delivery : Delivery) (state : RunState) where
  pub held_values : (variables : List (List Part)) (held : List (List ℕ)) → held ≡ map (text_value state.values) variables → first_some (λ text. first_some find (flag_list text)) held ≡ first_some find (values_of delivery state (flag_values (Some variables)))
  held_values variables held is = ap (first_some (λ text. first_some find (flag_list text))) is ∙ sym (first_flat find flag_list (map (text_value state.values) variables))

-- a test finds the first match of its values with the octets of its keys
module _ (comparison : Comparison) (delivery : Delivery) (state : RunState) where
  pub keyed_found : (source : ValueSource) (keys : List (List Part)) (keyed : List (List ℕ)) → keyed ≡ keys_of state source keys → first_some (λ value. first_match comparison (pairs_with keyed value)) (compared_of comparison.match_type delivery state source) ≡ match_found delivery state source comparison keys
  unfolding match_found
  keyed_found source keys keyed is =
      ap (λ ks. first_some (λ value. first_match comparison (pairs_with ks value)) (compared_of comparison.match_type delivery state source)) is
      ∙ sym (first_flat (λ pair. match_of comparison pair.value pair.key) (pairs_with (keys_of state source keys)) (compared_of comparison.match_type delivery state source))

each_alone : (texts : List (List ℕ)) → flat_map (cut_key false) texts ≡ texts
each_alone [] = refl
each_alone (text ∷ texts) = ap (λ l. text ∷ l) (each_alone texts)

each_cut : (texts : List (List ℕ)) → flat_map (cut_key true) texts ≡ flag_keys_of_texts texts
unfolding flag_keys_of_texts
each_cut texts = refl

-- The keys of a test are the pieces of their texts if its source cuts keys at spaces. Otherwise
-- they are the whole texts.
pub cut_as_source : (source : ValueSource) (texts : List (List ℕ)) (cut : Bool) → cut ≡ cuts_keys source → flat_map (cut_key cut) texts ≡ keys_from source texts
cut_as_source source texts cut is = ap (λ b. flat_map (cut_key b) texts) is ∙ by source
  where
    by : (s : ValueSource) → flat_map (cut_key (cuts_keys s)) texts ≡ keys_from s texts
    by (field_values part names) = each_alone texts
    by (envelope_values part names) = each_alone texts
    by (string_values strings) = each_alone texts
    by (flag_values variables) = each_cut texts
    by (date_values zone field part) = each_alone texts
    by (clock_values zone part) = each_alone texts
    by (body_values transform) = each_alone texts
