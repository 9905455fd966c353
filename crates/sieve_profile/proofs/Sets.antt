-- Profiles as sets.
use Rattle.std.proofs.Common.{◌≡◌, Bool, false, ◌||◌}
use denote.Enum.Declared.{tag_of}
use Rattle.sieve_profile.specs.Extension.{extensions, same_extension}
use Rattle.sieve_profile.specs.Profile.{Profile, empty_profile, has, profile_of, with_extension}
use Rattle.sieve_profile.specs.contracts.extension.Extension.{enum, the_type}
use Rattle.sieve_profile.specs.declared.extension.Extension.{Extension}
use Rattle.sieve_profile.proofs.Each.{value_at}
use Rattle.sieve_profile.proofs.Flags.{flag_at}

has_those : (is_in : Extension → Bool) (extension : Extension) → has (profile_of is_in) extension ≡ is_in extension
has_those is_in extension = flag_at is_in extensions (tag_of the_type extension) extension (value_at enum tt extension)

pub empty_has_none : (extension : Extension) → has empty_profile extension ≡ false
empty_has_none extension = has_those (λ other. false) extension

pub with_has_more : (profile : Profile) (extension other : Extension) → has (with_extension profile extension) other ≡ (has profile other || same_extension extension other)
with_has_more profile extension other = has_those (λ one. has profile one || same_extension extension one) other
