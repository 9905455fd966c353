use Rattle.std.proofs.Common.{◌++◌, ℕ, List, codes, filter, refl}
use Rattle.std.specs.List.{flat_map}
use Rattle.sieve_profile.specs.Extension.{extensions}
use Rattle.sieve_profile.specs.Profile.{Profile, has}
use Rattle.bench.specs.Report.{extension_text}
use Rattle.bench.proofs.Writing.{begins, goes_on, stops, ends_last}
use Rattle.bench.proofs.profile_line.write_names.Goals as goal

abbrev line : Profile → List ℕ
line profile = codes "with" ++ (flat_map extension_text (filter (has profile) extensions) ++ codes "\n")

pub returns-in_err-write_out : goal.returns-in_err-write_out
returns-in_err-write_out g c =
    stops _ _ _ c.from_residual.ensures.0 _ _ _ _ _ _ _ (begins _ _ _ (line c.args.profile)) refl c.in_err-write_out.ensures

pub returns-in_err-write_extensions : goal.returns-in_err-write_extensions
returns-in_err-write_extensions g c =
    stops _ _ _ c.from_residual-in_err-write_extensions.ensures.0 _ _ _ _ (codes "\n") _ _ (goes_on _ _ _ _ _ _ _ _ (begins _ _ _ (line c.args.profile)) c.in_ok-write_out.ensures) refl c.in_err-write_extensions.ensures

pub returns : goal.returns
returns g c =
    ends_last _ _ _ _ _ _ (codes "\n") _ (goes_on _ _ _ _ _ (flat_map extension_text (filter (has c.args.profile) extensions)) (codes "\n") _ (goes_on _ _ _ _ _ _ _ _ (begins _ _ _ (line c.args.profile)) c.in_ok-write_out.ensures) c.in_ok-write_extensions.ensures) c.write_out-2.ensures
