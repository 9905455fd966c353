-- The names of comparators.
use Rattle.std.proofs.Common.{◌≡◌, ℕ, ◌||◌, cond, List, [], ◌∷◌, None, Some, is_some, codes, nat_eq, ap, ◌∙◌}
use Rattle.std.specs.List.{list_any}
use lib.Pointwise.{pointwise}
use Rattle.octets.proofs.Both.{some_step}
use Rattle.match_text.specs.Comparator.{collation_named}
use Rattle.match_text.specs.declared.comparators.Collation.TheVariants.{Casemap, Numeric, Octet}

pub comparators_known : (name : List ℕ) → is_some (collation_named name) ≡ list_any (λ known. pointwise nat_eq known name) (codes "i;octet" ∷ codes "i;ascii-casemap" ∷ codes "i;ascii-numeric" ∷ [])
comparators_known name =
    let octet = pointwise nat_eq (codes "i;octet") name in
    let casemap = pointwise nat_eq (codes "i;ascii-casemap") name in
    let numeric = pointwise nat_eq (codes "i;ascii-numeric") name in
    some_step octet Octet (cond casemap (Some Casemap) (cond numeric (Some Numeric) None))
    ∙ ap (λ more. octet || more) (some_step casemap Casemap (cond numeric (Some Numeric) None) ∙ ap (λ more. casemap || more) (some_step numeric Numeric None))
