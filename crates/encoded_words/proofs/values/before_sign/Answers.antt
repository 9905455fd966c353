use Rattle.std.proofs.Common.{◌≡◌, ℕ, take, drop, sym, subst, false}
use Rattle.encoded_words.specs.Scan.{has_known, pieces_of}
use Rattle.encoded_words.proofs.Steps.{front_of, put_before, known_from, signs_alone}
use Rattle.encoded_words.proofs.values.before_sign.Goals as goal

pub returns-clause-alone : goal.returns-clause-alone
returns-clause-alone c = λ profile.
    let value = c.args.value.now in
    let front = front_of value c.memchr.result c.memchr.ensures in
    let P : ℕ → Type 0 = λ n. put_before (take n value) (pieces_of profile (drop n value)) ≡ pieces_of profile value in
    subst P (sym c.unwrap_or.ensures) (signs_alone profile value _ front.0 front.1)

pub returns-clause-unknown : goal.returns-clause-unknown
returns-clause-unknown c = λ profile none.
    let value = c.args.value.now in
    let P : ℕ → Type 0 = λ n. has_known profile (drop n value) ≡ false in
    subst P (sym c.unwrap_or.ensures) (known_from profile value _ (front_of value c.memchr.result c.memchr.ensures).0 none)
