use Rattle.std.proofs.Common.{if◌then◌else◌, ◌≡◌, ℕ, ◌+◌, ◌<◌, ◌++◌, ◌||◌, Some, None, List, true, false, length, drop, take, length-drop, refl, sym, ◌∙◌, ap, arith}
use Rattle.std.specs.List.{list_any}
use Rattle.encoded_words.specs.Meaning.{meaning}
use Rattle.encoded_words.specs.Cut.{kept}
use Rattle.encoded_words.specs.Scan.{decoded_of, has_word, is_word, pieces_of, word_at}
use Rattle.charsets.specs.view.Text.{octets_of}
use Rattle.encoded_words.specs.view.Word.{word_of}
use Rattle.sieve_profile.specs.view.Profile.{profile_as}
use Rattle.encoded_words.proofs.Steps.{all_alone, put_before, known_next, last_decoded, meaningless_at, none_at, none_found, plain_step, unknown_here, unknown_means, word_decoded, word_found, word_step}
use Rattle.encoded_words.proofs.values.replaced.Goals as goal

pub loop-plain-preserved-in_default : goal.loop-plain-preserved-in_default
loop-plain-preserved-in_default c =
    let profile = profile_as c.args.profile in
    let left = c.loop-plain.left.now in
    let plain = c.loop-plain.plain in
    let some : 0 < length (drop plain left) = omega (arith, length-drop plain left) in
    let none : None ≡ word_at (drop plain left) = c.in_default.ensures.is ∙ ap word_at c.split_at.ensures.back in
    record {
      within = omega arith;
      alone = plain_step profile left plain (pieces_of profile left) (omega arith) (none_at profile (drop plain left) some none) c.loop-plain.invariant.alone;
      decoded = c.loop-plain.invariant.decoded;
      found = c.loop-plain.invariant.found;
      unknown = λ none. ((c.loop-plain.invariant.unknown none).0, known_next profile left plain (omega arith) ((c.loop-plain.invariant.unknown none).1));
    }

pub loop-plain-preserved-in_default-2 : goal.loop-plain-preserved-in_default-2
loop-plain-preserved-in_default-2 c =
    let profile = profile_as c.args.profile in
    let left = c.loop-plain.left.now in
    let plain = c.loop-plain.plain in
    let some : 0 < length (drop plain left) = omega (arith, length-drop plain left) in
    let word = c.in-Some.ensures.is ∙ ap word_at c.split_at.ensures.back in
    let none : None ≡ meaning profile (word_of c.in-Some.word) = ap octets_of (sym c.in_default-2.is) ∙ c.in_ok-meant.ensures.is in
    record {
      within = omega arith;
      alone = plain_step profile left plain (pieces_of profile left) (omega arith) (meaningless_at profile (drop plain left) (word_of c.in-Some.word) some word none) c.loop-plain.invariant.alone;
      decoded = c.loop-plain.invariant.decoded;
      found = c.loop-plain.invariant.found;
      unknown = λ none. ((c.loop-plain.invariant.unknown none).0, known_next profile left plain (omega arith) ((c.loop-plain.invariant.unknown none).1));
    }

pub loop-plain-preserved : goal.loop-plain-preserved
loop-plain-preserved c =
    let profile = profile_as c.args.profile in
    let left = c.loop-plain.left.now in
    let gap = c.split_at.result.0.now in
    let rest = c.split_at.result.1.now in
    let word = word_of c.in-Some.word in
    let meant = c.in-Some-2.meant.items in
    let after = c.split_at-in-loop-plain.result.1.now in
    let done = c.loop-plain.octets.items in
    let some : 0 < length rest = omega arith in
    let means : Some meant ≡ meaning profile word = ap octets_of (sym c.in-Some-2.is) ∙ c.in_ok-meant.ensures.is in
    let alone : put_before gap (pieces_of profile rest) ≡ pieces_of profile left =
    ap (λ one. put_before one (pieces_of profile rest)) c.split_at.ensures.front
    ∙ ap (λ one. put_before (take c.loop-plain.plain left) (pieces_of profile one)) c.split_at.ensures.back
    ∙ c.loop-plain.invariant.alone in
    let cut =
    word_step profile gap rest after meant word (length c.in-Some.word.charset.now + length c.in-Some.word.text.now + 7) (pieces_of profile left) some c.in-Some.ensures.is means refl c.split_at-in-loop-plain.ensures.back alone in
    let pushed = c.in_ok-push_word.ensures ∙ ap (λ (one : List ℕ). done ++ (kept c.loop-plain.after_word gap ++ one)) c.deref.ensures.value in
    record {
      within = omega arith;
      alone = c.before_sign-plain-in-loop-plain.ensures.alone profile;
      decoded = word_decoded done c.push_word.new.octets.items gap meant c.loop-plain.after_word word (pieces_of profile left) (pieces_of profile after) _ pushed cut c.loop-plain.invariant.decoded;
      found = word_found c.loop-plain.after_word _ gap meant word (pieces_of profile left) (pieces_of profile after) cut c.loop-plain.invariant.found;
      unknown = λ none. absurd (unknown_means profile (drop c.loop-plain.plain left) meant word (c.in-Some.ensures.is ∙ ap word_at c.split_at.ensures.back) means (c.loop-plain.invariant.unknown none).1);
    }

pub returns-then-not-after_word-clause-is : goal.returns-then-not-after_word-clause-is
returns-then-not-after_word-clause-is c =
    let profile = profile_as c.args.profile in
    let left = c.loop-plain.left.now in
    let alone = all_alone profile left c.loop-plain.plain c.loop-plain-test.false c.loop-plain.invariant.alone in
    let none : has_word profile left ≡ false = ap (list_any is_word) alone ∙ none_found left in
    let whole : has_word profile c.args.value.now ≡ false = sym c.loop-plain.invariant.found ∙ ap (λ b. b || has_word profile left) c.if-not-after_word.true ∙ none in
    rw whole refl

pub returns-clause-is : goal.returns-clause-is
returns-clause-is c =
    let profile = profile_as c.args.profile in
    let left = c.loop-plain.left.now in
    let alone = all_alone profile left c.loop-plain.plain c.loop-plain-test.false c.loop-plain.invariant.alone in
    let whole : has_word profile c.args.value.now ≡ true = sym c.loop-plain.invariant.found ∙ ap (λ b. b || has_word profile left) c.if-not-after_word.false in
    let items =
    c.in_ok-extend_from_slice.ensures.items
    ∙ last_decoded c.loop-plain.octets.items left (decoded_of profile c.args.value.now) c.loop-plain.after_word (pieces_of profile left) alone c.loop-plain.invariant.decoded in
    ap Some items ∙ ap (λ b. if b then Some (decoded_of profile c.args.value.now) else None) (sym whole)

pub returns-in_err-meant-clause-unknown : goal.returns-in_err-meant-clause-unknown
returns-in_err-meant-clause-unknown c =
    let profile = profile_as c.args.profile in
    λ none.
    let refused : false ≡ true =
    c.in_err-meant.ensures.unknown
    (unknown_here profile (drop c.loop-plain.plain c.loop-plain.left.now) (word_of c.in-Some.word) (c.in-Some.ensures.is ∙ ap word_at c.split_at.ensures.back) (c.loop-plain.invariant.unknown none).1) in
    cc

pub returns-in_err-push_word-clause-unknown : goal.returns-in_err-push_word-clause-unknown
returns-in_err-push_word-clause-unknown c =
    let profile = profile_as c.args.profile in
    λ none.
    absurd
    (unknown_means profile (drop c.loop-plain.plain c.loop-plain.left.now) c.in-Some-2.meant.items (word_of c.in-Some.word) (c.in-Some.ensures.is ∙ ap word_at c.split_at.ensures.back)
    (ap octets_of (sym c.in-Some-2.is) ∙ c.in_ok-meant.ensures.is) (c.loop-plain.invariant.unknown none).1)
