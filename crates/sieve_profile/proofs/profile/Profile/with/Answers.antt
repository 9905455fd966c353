use Rattle.std.proofs.Common.{◌≡◌, ℕ, Bool, List, false, ◌||◌, length, map, nat_eq, rules, slice_index_or, ap, ◌∙◌}
use denote.Enum.Declared.{tag_of}
use Rattle.sieve_profile.specs.contracts.extension.Extension.{the_type}
use Rattle.sieve_profile.specs.Extension.{extensions}
use Rattle.sieve_profile.specs.Profile.{Profile}
use Rattle.sieve_profile.proofs.Flags.{each_set, places}
use Rattle.sieve_profile.proofs.profile.Profile.with.Goals as goal

abbrev of_flags : List Bool → Profile
of_flags flags = record { asked = flags }

pub returns : goal.returns
returns c =
    let flags = c.args.self.asked in
    let n = tag_of the_type c.args.extension in
    let known : length flags ≡ length extensions = search rules in
    ap of_flags (each_set flags n ∙ ap (λ (count : ℕ). map (λ m. slice_index_or flags m false || nat_eq n m) (places count)) known)
