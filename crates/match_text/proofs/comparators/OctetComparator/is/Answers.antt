use Rattle.std.proofs.lemmas.Bool.Decides.{Decides-eqb}
use Rattle.std.proofs.lemmas.List.{ext_get_or}
use Rattle.std.proofs.lemmas.Slice.Eq.{slice_eq-Decides}
use Rattle.match_text.proofs.Places.{Same-octet}
use Rattle.match_text.proofs.comparators.OctetComparator.is.Goals as goal

pub returns : goal.returns
returns c =
    let decides = slice_eq-Decides Decides-eqb _ _ _ c.eq.ensures in (
      λ is. Same-octet _ _ (decides.0 is),
      λ same. decides.1 (ext_get_or 0 _ _ same.equal_lengths same.equal_octets),
    )
