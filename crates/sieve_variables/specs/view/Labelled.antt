-- The model of octets with a label.
use Rattle.sieve_variables.specs.Labelled.{Labelled}
use Rattle.sieve_variables.specs.declared.labelled.LabelledWord as words
use Rattle.sieve_variables.specs.declared.labelled.LabelledWord.TheVariants as variants

abbrev pub labelled_of : {L : Type 0} → words.LabelledWord L → Labelled L
labelled_of (variants.Few label octets) = record { label = label; octets = octets }
labelled_of (variants.Many label octets) = record { label = label; octets = octets.value.items }
