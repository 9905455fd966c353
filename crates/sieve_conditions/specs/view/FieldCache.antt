-- The results that are kept of reading a message: its fields and its entities.
use Rattle.std.specs.Prelude.{◌≡◌, ◌<◌, ◌+◌, ◌-◌, ◌^◌, ℕ, List, ◌∷◌, drop, length, map, slice_get, Option, None, Some, false, true}
use Rattle.std.specs.Cow.{cow_slice_items}
use Rattle.std.specs.declared.alloc.Global.{Global}
use Rattle.std.specs.declared.borrow.CowSlice.{CowSlice}
use Rattle.std.specs.declared.vec.Vec.{Vec}
use Rattle.sieve_profile.specs.Profile.{Profile}
use Rattle.message_text.specs.Addresses.{AddrSpec, addresses_of}
use Rattle.message_text.specs.Fields.{Field, IsNextNamed, decoded_values_of, fields_of, is_field_named, values_of}
use Rattle.mime_text.specs.Entities.{entities_of}
use Rattle.mime_text.specs.declared.entities.Entity as entity
use Rattle.mime_text.specs.view.Entities.{entity_as}
use Rattle.sieve_conditions.specs.Matching.{fields_named}
use Rattle.sieve_conditions.specs.declared.field_cache.NamedPlace.{NamedPlace}

-- the addresses in the values of the fields, in order
abbrev pub address_lists_of : List ℕ → List (List AddrSpec)
address_lists_of message = map addresses_of (values_of message)

-- each list is that of the field at its place
abbrev pub AreListed : List ℕ → List (Option (Vec AddrSpec Global)) → Type 0
AreListed message lists = (i : ℕ) (listed : Vec AddrSpec Global) → slice_get lists i ≡ Some (Some listed) → slice_get (address_lists_of message) i ≡ Some listed.items

-- each value is that of the field at its place, with its encoded words replaced
abbrev pub AreDecoded : Profile → List ℕ → List (Option (CowSlice ℕ Global)) → Type 0
AreDecoded profile message values = (i : ℕ) (value : CowSlice ℕ Global) → slice_get values i ≡ Some (Some value) → slice_get (decoded_values_of profile message) i ≡ Some (cow_slice_items value)

-- if the entities are kept, they are those of the message
abbrev pub AreEntities : List ℕ → Option (Vec entity.Entity Global) → Type 0
AreEntities message None = Unit {0}
AreEntities message (Some kept) = map entity_as kept.items ≡ entities_of message

-- field i is the first of that name at or after a place
pub record IsNextField (message name : List ℕ) (start i : ℕ) : Type 0 where
  pub field : Field
  pub at : slice_get (fields_of message) i ≡ Some field
  pub next : IsNextNamed (fields_of message) name start i
  pub rest : fields_named (drop start (fields_of message)) name ≡ field ∷ fields_named (drop (i + 1) (fields_of message)) name

-- The field at the first place is there, and it is the first that has its name. The next place is
-- after it. No field of that name is between the two.
pub record IsNamedPlace (message : List ℕ) (named : NamedPlace) : Type 0 where
  pub before : (name : List ℕ) → slice_get (map (is_field_named name) (fields_of message)) named.first ≡ Some true → (k : ℕ) → k < named.first → slice_get (map (is_field_named name) (fields_of message)) k ≡ Some false
  pub after : (name : List ℕ) → slice_get (map (is_field_named name) (fields_of message)) named.first ≡ Some true → (k : ℕ) → named.first < k → k < named.next → slice_get (map (is_field_named name) (fields_of message)) k ≡ Some false
  pub within : named.first < length (fields_of message)
  pub countable : named.first < 2 ^ 64 - 1
  pub ordered : named.first < named.next

-- each kept place is that of a field that is the first of its name
abbrev pub AreNamed : List ℕ → List (Option NamedPlace) → Type 0
AreNamed message places = (i : ℕ) (named : NamedPlace) → slice_get places i ≡ Some (Some named) → IsNamedPlace message named

-- each item at one of these places was at that place before
abbrev pub HasNoMore : {X : Type 0} → (before places : List (Option X)) → Type 0
HasNoMore {X = X} before places = (i : ℕ) (x : X) → slice_get places i ≡ Some (Some x) → slice_get before i ≡ Some (Some x)
