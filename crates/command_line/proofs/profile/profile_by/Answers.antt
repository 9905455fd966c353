-- The words are taken one by one, up to the first with an unknown name.
use Rattle.std.proofs.Common.{◌≡◌, ◌∙◌, ℕ, ◌+◌, ◌<◌, List, [], length, map, get_or, drop, Bor, Ok, Err, sym, ap, arith}
use Rattle.std.proofs.lemmas.List.{at_drop_more, at_drop_all}
use Rattle.clap.specs.Walk.{Text}
use Rattle.sieve_profile.specs.Profile.{Profile}
use Rattle.sieve_profile.specs.view.Profile.{profile_as}
use Rattle.command_line.specs.Profiles.{names_in, parts_of, with_names}
use Rattle.command_line.proofs.Saying.{all_known, one_unknown}
use Rattle.command_line.proofs.profile.profile_by.Goals as goal

abbrev names_of : List (Bor Text) → List Text
names_of words = names_in (map (λ word. word.now) words)

-- a word of which all names are known, and one with a name that is not
known : (before new : Profile) (words : List (Bor Text)) (i : ℕ) (d : Bor Text) → i < length words
    → with_names before (parts_of (get_or words i d).now) ≡ Ok new → with_names before (names_of (drop i words)) ≡ with_names new (names_of (drop (i + 1) words))
known before new words i d lt is =
    at_drop_more (λ (ws : List (Bor Text)). with_names before (names_of ws)) words i d lt
    ∙ all_known before new (parts_of (get_or words i d).now) (names_of (drop (i + 1) words)) is

unknown : (before : Profile) (name : Text) (words : List (Bor Text)) (i : ℕ) (d : Bor Text) → i < length words
    → with_names before (parts_of (get_or words i d).now) ≡ Err name → with_names before (names_of (drop i words)) ≡ Err name
unknown before name words i d lt is =
    at_drop_more (λ (ws : List (Bor Text)). with_names before (names_of ws)) words i d lt
    ∙ one_unknown before name (parts_of (get_or words i d).now) (names_of (drop (i + 1) words)) is

pub loop-word-init : goal.loop-word-init
loop-word-init c = ap (λ (p : Profile). with_names p (names_of c.args.words.now)) c.new-profile.ensures

pub loop-word-preserved : goal.loop-word-preserved
loop-word-preserved c =
    sym (known (profile_as c.loop-word.profile) (profile_as c.in-Ok.more) c.args.words.now c.loop-word.word-index record { ref_ptr = (0, 0); now = [] } c.loop-word-test.true c.in-Ok.ensures)
    ∙ c.loop-word.invariant

pub returns-in-Err : goal.returns-in-Err
returns-in-Err c =
    sym c.loop-word.invariant
    ∙ unknown (profile_as c.loop-word.profile) c.in-Err.name.now c.args.words.now c.loop-word.word-index record { ref_ptr = (0, 0); now = [] } c.loop-word-test.true c.in-Err.ensures

pub returns : goal.returns
returns c =
    let before = profile_as c.loop-word.profile in
    sym c.loop-word.invariant
    ∙ at_drop_all (λ (ws : List (Bor Text)). with_names before (names_of ws)) c.args.words.now c.loop-word.word-index (omega arith)
