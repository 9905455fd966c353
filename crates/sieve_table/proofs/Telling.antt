-- Roles, tags and kinds of tags that compare as the same are the same. A test that all tags pass is
-- passed by each.
use Rattle.std.proofs.Common.{◌≡◌, Bool, true, false, ◌&&◌, Option, None, Some, refl, sym, ap, ◌∙◌}
use Rattle.std.specs.List.{list_all}
use denote.Enum.Bare.{same_true, true_same}
use Rattle.sieve_table.specs.Role.{has_role, same_role}
use Rattle.sieve_table.specs.Table.{all_tags, same_kind, same_tag}
use Rattle.sieve_table.specs.contracts.row.Role as roles
use Rattle.sieve_table.specs.contracts.row.TagKind as kinds
use Rattle.sieve_table.specs.contracts.tag.Tag as tags
use Rattle.sieve_table.specs.declared.row.Role.{Role}
use Rattle.sieve_table.specs.declared.row.TagKind.{TagKind}
use Rattle.sieve_table.specs.declared.tag.Tag.{Tag}
use Rattle.sieve_profile.proofs.Each.{of_each}

pub one_role : (a b : Role) → same_role a b ≡ true → a ≡ b
one_role a b e = same_true roles.the_type tt a b e

pub one_tag : (a b : Tag) → same_tag a b ≡ true → a ≡ b
one_tag a b e = same_true tags.the_type tt a b e

pub one_kind : (a b : TagKind) → same_kind a b ≡ true → a ≡ b
one_kind a b e = same_true kinds.the_type tt a b e

pub own_kind : (k : TagKind) → same_kind k k ≡ true
own_kind k = true_same kinds.the_type k k refl

-- no role is both the wanted one and bad, where the wanted one is not bad
in_role_alone : (wanted : Role) (bad : Option Role → Bool) (r : Role) (is : Bool) → same_role wanted r ≡ is → bad (Some wanted) ≡ false → (is && bad (Some r)) ≡ false
in_role_alone wanted bad r false e fine = refl
in_role_alone wanted bad r true e fine = ap (λ x. bad (Some x)) (sym (one_role wanted r e)) ∙ fine

pub only_in_role : (wanted : Role) (bad : Option Role → Bool) (r : Option Role) → bad (Some wanted) ≡ false → (has_role wanted r && bad r) ≡ false
only_in_role wanted bad None fine = refl
only_in_role wanted bad (Some r) fine = in_role_alone wanted bad r (same_role wanted r) refl fine

pub of_each_tag : (passes : Tag → Bool) → list_all passes all_tags ≡ true → (t : Tag) → passes t ≡ true
of_each_tag passes all t = of_each tags.enum tt passes all t
