-- The match values that one value, one field and one entity give.
use Rattle.std.specs.Prelude.{ℕ, ◌+◌, Bool, true, false, List, [], ◌∷◌, length, map, Option}
use Rattle.std.specs.List.{flat_map}
use Rattle.std.specs.Option.{option_and_then, option_map, option_or}
use Rattle.flag_lists.specs.Flags.{flag_keys}
use Rattle.sieve_profile.specs.Profile.{Profile}
use Rattle.message_text.specs.Addresses.{AddrSpec, part_of_address, part_of_path}
use Rattle.message_text.specs.Fields.{Field}
use Rattle.message_text.specs.declared.addressing.AddressPart.{AddressPart}
use Rattle.message_text.specs.declared.addressing.AddressPart.TheVariants.{All}
use Rattle.mime_text.specs.Entities.{Entity}
use Rattle.mime_text.specs.Values.{texts_if_named}
use Rattle.sieve_script.specs.Reading.{ValueSource, flag_values}
use Rattle.sieve_variables.specs.Part.{Part}
use Rattle.sieve_variables.specs.Value.{text_value}
use Rattle.sieve_conditions.specs.Matching.{envelope_text, first_match, first_some, pairs_with, values_in}
use Rattle.sieve_conditions.specs.declared.counting.Counter.{Counter}
use Rattle.sieve_conditions.specs.declared.field_values.Finder.{Finder}
use Rattle.sieve_conditions.specs.declared.matcher.Matcher.{Matcher}
use Rattle.sieve_delivery.specs.declared.envelope.Envelope.{Envelope}

-- the texts of a key: itself, or its pieces if keys are cut at spaces
abbrev pub cut_key : (cut : Bool) → List ℕ → List (List ℕ)
cut_key true text = flag_keys text
cut_key false text = text ∷ []

-- the keys that a value is compared with
abbrev pub key_texts : Matcher → List (List ℕ)
key_texts matcher = flat_map (cut_key matcher.are_cut) (map (text_value matcher.values.now) matcher.keys.now)

-- the match values that a value gives by one key, and by the first key that it matches
abbrev pub key_found : Matcher → List ℕ → List Part → Option (List (List ℕ))
key_found matcher value key = first_match matcher.comparison (pairs_with (cut_key matcher.are_cut (text_value matcher.values.now key)) value)

abbrev pub found_with : Matcher → List ℕ → Option (List (List ℕ))
found_with matcher value = first_match matcher.comparison (pairs_with (key_texts matcher) value)

-- whether a test's keys are cut at spaces
abbrev pub cuts_keys : ValueSource → Bool
cuts_keys (flag_values variables) = true
cuts_keys other = false

-- here `find` gives the match values of a value that matches
module _ (find : List ℕ → Option (List (List ℕ))) where
  -- a part of an address that is there
  abbrev pub part_found : AddressPart → AddrSpec → Option (List (List ℕ))
  part_found part address = option_and_then find (part_of_address part address)

  -- a part of an envelope's address, and of the address in the envelope's part of a name
  abbrev pub path_found : AddressPart → List ℕ → Option (List (List ℕ))
  path_found part text = option_and_then find (part_of_path part text)

  abbrev pub path_name_found : AddressPart → Envelope → List ℕ → Option (List (List ℕ))
  path_name_found part envelope name = option_and_then (path_found part) (envelope_text envelope name)

  -- the texts of an entity, if one of these entries names it
  abbrev pub entity_found : Profile → (entries : List (List ℕ)) → Entity → Option (List (List ℕ))
  entity_found profile entries entity = first_some find (texts_if_named profile entries entity)

-- The visitor after one more field. It has the match that was found, or the number of the values so
-- far.
abbrev pub found_after : Profile → Option AddressPart → Finder → Field → Finder
found_after profile part finder field = record finder { found = option_or finder.found (first_some (found_with finder.matcher.now) (values_in profile part field)) }

abbrev pub counted_after : Profile → Option AddressPart → Counter → Field → Counter
counted_after profile part counter field = record counter { count = counter.count + length (values_in profile (option_map (λ one. All) part) field) }
