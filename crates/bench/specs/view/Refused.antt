-- A fault of edits that are made in turn.
use Rattle.std.specs.Prelude.{◌≡◌, ⊤, Result, Err}
use Rattle.bench.specs.Content.{Content}
use Rattle.bench.specs.declared.fault.EditFault.{EditFault}
use Rattle.bench.specs.declared.fault.EditFault.TheVariants.{TooLarge, NoSuchScript, NameTaken, NoSuchMessage, Full, NoMemory}

-- A fault is the first refusal of a job's edits, none of which removes or renames. Or one of the
-- edits was out of memory.
abbrev pub Refused : EditFault → Result Content EditFault → Type 0
Refused NoSuchScript made = ⊥
Refused NameTaken made = ⊥
Refused NoSuchMessage made = ⊥
Refused Full made = made ≡ Err Full
Refused TooLarge made = made ≡ Err TooLarge
Refused NoMemory made = ⊤
