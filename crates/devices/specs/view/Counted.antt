-- The parts of a counted device.
use Rattle.std.specs.Prelude.{ℕ}
use Rattle.devices.specs.declared.devices.Counted.{Counted}

-- the device inside
abbrev pub device_of : {D : Type 0} → Counted D → D
device_of counted = counted.inner

-- the number of faults that were counted
abbrev pub faults_of : {D : Type 0} → Counted D → ℕ
faults_of counted = counted.faults

-- the number of reads that were counted
abbrev pub calls_of : {D : Type 0} → Counted D → ℕ
calls_of counted = counted.calls
