-- The end of a test that a command or another test waits for.
use Rattle.std.proofs.Common.{◌≡◌, ℕ, List, [], ◌∷◌, ◌++◌, map, sym, ap, ◌∙◌}
use Rattle.std.proofs.lemmas.List.{map-append, reverse-append}
use Rattle.std.specs.declared.alloc.Global.{Global}
use Rattle.std.specs.declared.vec.Vec.{Vec}
use Rattle.sieve_syntax.specs.Machine.{Outer, after_listed, close, test_with}
use Rattle.sieve_syntax.specs.Symbol.{Symbol}
use Rattle.sieve_syntax.specs.Tree.{one_test}
use Rattle.sieve_syntax.specs.view.Reader.{head_value, level_value, levels_value}
use Rattle.sieve_syntax.specs.view.Tree.{test_of, tests_of}
use Rattle.sieve_syntax.specs.declared.reader.Head as heads
use Rattle.sieve_syntax.specs.declared.reader.Level as levels
use Rattle.sieve_syntax.specs.declared.reader.Level.TheVariants as level_variants
use Rattle.sieve_syntax.specs.declared.tree.Test as one_tests
use Rattle.sieve_syntax.specs.declared.tree.Tests as some_tests

newest_first : (before : List levels.Level) (level : levels.Level) → levels_value (before ++ level ∷ []) ≡ level_value level ∷ levels_value before
newest_first before level = ap (map level_value) (reverse-append before (level ∷ []))

-- the owner waits for one test
pub closes_one : (room : ℕ) (o : Outer) (all before : List levels.Level) (owner head : heads.Head) (ts after : some_tests.Tests) (w : Symbol)
    → all ≡ before ++ level_variants.One owner ∷ [] → tests_of after ≡ one_test (test_with (head_value head) (tests_of ts))
    → close room o (levels_value all) (head_value head) (tests_of ts) w ≡ close room o (levels_value before) (head_value owner) (tests_of after) w
unfolding close
closes_one room o all before owner head ts after w is seen =
    ap (λ ls. close room o ls (head_value head) (tests_of ts) w) (ap levels_value is ∙ newest_first before (level_variants.One owner))
    ∙ ap (λ t. close room o (levels_value before) (head_value owner) t w) (sym seen)

-- the owner waits for the next test of its list
pub closes_listed : (room : ℕ) (o : Outer) (all before : List levels.Level) (owner head : heads.Head) (listed : Vec one_tests.Test Global) (more : List one_tests.Test) (test : one_tests.Test) (ts : some_tests.Tests) (w : Symbol)
    → all ≡ before ++ level_variants.List owner listed ∷ [] → more ≡ listed.items ++ test ∷ [] → test_of test ≡ test_with (head_value head) (tests_of ts)
    → close room o (levels_value all) (head_value head) (tests_of ts) w ≡ after_listed o (levels_value before) (head_value owner) (map test_of more) w
unfolding close
closes_listed room o all before owner head listed more test ts w is longer seen =
    ap (λ ls. close room o ls (head_value head) (tests_of ts) w) (ap levels_value is ∙ newest_first before (level_variants.List owner listed))
    ∙ ap (λ tests. after_listed o (levels_value before) (head_value owner) tests w)
    (sym (ap (map test_of) longer ∙ map-append test_of listed.items (test ∷ []) ∙ ap (λ t. map test_of listed.items ++ t ∷ []) seen))
