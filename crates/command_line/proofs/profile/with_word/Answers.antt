-- A word's names are taken one by one, up to the first unknown one.
use Rattle.std.proofs.Common.{◌≡◌, ◌∙◌, ℕ, ◌+◌, ◌<◌, List, ◌∷◌, length, get_or, drop, Option, Some, None, Ok, Err, refl, sym, ap, arith}
use Rattle.std.proofs.lemmas.Iterator.Splits.{YieldsList-from_str_split}
use Rattle.std.proofs.lemmas.Iterator.Consumers.{YieldsList-at, YieldsList-turn, YieldsList-end}
use Rattle.std.proofs.lemmas.List.{at_drop_more, at_drop_all, length_push}
use Rattle.clap.specs.Walk.{Text}
use Rattle.std.specs.Option.{option_map}
use Rattle.sieve_profile.specs.Profile.{Profile, with_named}
use Rattle.sieve_profile.specs.view.Profile.{profile_as}
use Rattle.command_line.specs.Profiles.{parts_of, where_known, with_names}
use Rattle.command_line.proofs.profile.with_word.Goals as goal

-- a name that asks for something, and one that does not
known : (profile more : Profile) (name : Text) (names : List Text) → Some more ≡ with_named profile name
    → with_names profile (name ∷ names) ≡ with_names more names
known profile more name names is = ap (λ (o : Option Profile). where_known name o (λ p. with_names p names)) (sym is)

unknown : (profile : Profile) (name : Text) (names : List Text) → None ≡ with_named profile name → with_names profile (name ∷ names) ≡ Err name
unknown profile name names is = ap (λ (o : Option Profile). where_known name o (λ p. with_names p names)) (sym is)

at_turn : (profile : Profile) (names : List Text) (n : ℕ) (name : Text) → n < length names → name ≡ get_or names n name
    → with_names profile (drop n names) ≡ with_names profile (name ∷ drop (n + 1) names)
at_turn profile names n name lt is =
    at_drop_more (with_names profile) names n name lt ∙ ap (λ (t : Text). with_names profile (t ∷ drop (n + 1) names)) (sym is)

at_end : (profile : Profile) (names : List Text) (n : ℕ) → n ≡ length names → with_names profile (drop n names) ≡ Ok profile
at_end profile names n is = at_drop_all (with_names profile) names n (omega arith)

pub loop-name-init : goal.loop-name-init
loop-name-init c = refl

pub loop-name-preserved : goal.loop-name-preserved
loop-name-preserved c =
    let split = c.split-name-items.ensures in
    let turn = YieldsList-turn (YieldsList-at c.into_iter-name-iterator.ensures.into_iter_gives (YieldsList-from_str_split 44 c.args.word.now (omega arith) split.text split.has_more split.pattern)) c.loop-name.yielded _ c.loop-name.yielded_by _ _ c.in-Some.name c.in-Some.is c.next.ensures.steps in
    let names = parts_of c.args.word.now in
    let n = length c.loop-name.yielded in
    let left = drop (n + 1) names in
    let name = c.in-Some.name.now in
    let is_known = ap (option_map profile_as) (sym c.in-Some-with_named.is) ∙ c.with_named.ensures ∙ ap (with_named (profile_as c.loop-name.profile)) c.as_bytes.ensures.value in
    ap (λ (k : ℕ). with_names (profile_as c.in-Some-with_named.more) (drop k names)) (length_push c.loop-name.yielded c.in-Some.name)
    ∙ sym (known (profile_as c.loop-name.profile) (profile_as c.in-Some-with_named.more) name left is_known)
    ∙ sym (at_turn (profile_as c.loop-name.profile) names n name turn.0 turn.1)
    ∙ c.loop-name.invariant

pub returns-in-None-with_named : goal.returns-in-None-with_named
returns-in-None-with_named c =
    let split = c.split-name-items.ensures in
    let turn = YieldsList-turn (YieldsList-at c.into_iter-name-iterator.ensures.into_iter_gives (YieldsList-from_str_split 44 c.args.word.now (omega arith) split.text split.has_more split.pattern)) c.loop-name.yielded _ c.loop-name.yielded_by _ _ c.in-Some.name c.in-Some.is c.next.ensures.steps in
    let names = parts_of c.args.word.now in
    let n = length c.loop-name.yielded in
    let name = c.in-Some.name.now in
    sym c.loop-name.invariant
    ∙ at_turn (profile_as c.loop-name.profile) names n name turn.0 turn.1
    ∙ unknown (profile_as c.loop-name.profile) name (drop (n + 1) names) (ap (option_map profile_as) (sym c.in-None-with_named.is) ∙ c.with_named.ensures ∙ ap (with_named (profile_as c.loop-name.profile)) c.as_bytes.ensures.value)

pub returns : goal.returns
returns c =
    let split = c.split-name-items.ensures in
    let end = YieldsList-end (YieldsList-at c.into_iter-name-iterator.ensures.into_iter_gives (YieldsList-from_str_split 44 c.args.word.now (omega arith) split.text split.has_more split.pattern)) c.loop-name.yielded _ c.loop-name.yielded_by _ _ c.in-None.is c.next.ensures.steps in
    let names = parts_of c.args.word.now in
    sym c.loop-name.invariant
    ∙ at_end (profile_as c.loop-name.profile) names (length c.loop-name.yielded) end.1
