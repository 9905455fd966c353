-- The program's lists of marks and of octets.
use Rattle.std.specs.Prelude.{ℕ, List, Option, option_map}
use Rattle.std.specs.declared.alloc.Global.{Global}
use Rattle.std.specs.declared.vec.Vec.{Vec}
use Rattle.mime_text.specs.declared.marks.ValueMark.{ValueMark}

abbrev pub marks_as : Option (Vec ValueMark Global) → Option (List ValueMark)
marks_as marks = option_map (λ marks. marks.items) marks

abbrev pub octets_as : Option (Vec ℕ Global) → Option (List ℕ)
octets_as octets = option_map (λ octets. octets.items) octets
