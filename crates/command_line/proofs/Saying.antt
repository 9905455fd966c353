-- The names of several words, one word after the other.
use Rattle.std.proofs.Common.{◌≡◌, List, [], ◌∷◌, ◌++◌, Option, Some, None, Ok, Err, ap}
use Rattle.clap.specs.Walk.{Text}
use Rattle.sieve_profile.specs.Profile.{Profile, with_named}
use Rattle.command_line.specs.Profiles.{where_known, with_names}

-- where a name and those of a first list are known, the names of a second list come next
known_by : (new : Profile) (name : Text) (xs ys : List Text) (o : Option Profile)
    → ((p : Profile) → with_names p xs ≡ Ok new → with_names p (xs ++ ys) ≡ with_names new ys)
    → where_known name o (λ p. with_names p xs) ≡ Ok new
    → where_known name o (λ p. with_names p (xs ++ ys)) ≡ with_names new ys
known_by new name xs ys None rest is = absurd (cc)
known_by new name xs ys (Some p) rest is = rest p is

pub all_known : (profile new : Profile) (xs ys : List Text) → with_names profile xs ≡ Ok new → with_names profile (xs ++ ys) ≡ with_names new ys
all_known profile new [] ys is = let same : profile ≡ new = cc in ap (λ (p : Profile). with_names p ys) same
all_known profile new (name ∷ xs) ys is =
    known_by new name xs ys (with_named profile name) (λ p. all_known p new xs ys) is

-- where one of these is unknown, it stays the answer with a second list
unknown_by : (unknown name : Text) (xs ys : List Text) (o : Option Profile)
    → ((p : Profile) → with_names p xs ≡ Err unknown → with_names p (xs ++ ys) ≡ Err unknown)
    → where_known name o (λ p. with_names p xs) ≡ Err unknown
    → where_known name o (λ p. with_names p (xs ++ ys)) ≡ Err unknown
unknown_by unknown name xs ys None rest is = is
unknown_by unknown name xs ys (Some p) rest is = rest p is

pub one_unknown : (profile : Profile) (unknown : Text) (xs ys : List Text) → with_names profile xs ≡ Err unknown → with_names profile (xs ++ ys) ≡ Err unknown
one_unknown profile unknown [] ys is = absurd (cc)
one_unknown profile unknown (name ∷ xs) ys is =
    unknown_by unknown name xs ys (with_named profile name) (λ p. one_unknown p unknown xs ys) is
