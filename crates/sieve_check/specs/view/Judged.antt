-- The program's judgement of a text.
use Rattle.sieve_check.specs.Judgement.{Judgement, sound, faulty}
use Rattle.sieve_check.specs.view.Checked.{commands_of}
use Rattle.sieve_check.specs.declared.judged.Judged.{Judged}
use Rattle.sieve_check.specs.declared.judged.Judged.TheVariants.{Sound, Faulty}

abbrev pub judged_as : Judged → Judgement
judged_as (Sound checked) = sound (commands_of checked)
judged_as (Faulty line kind) = faulty line kind
