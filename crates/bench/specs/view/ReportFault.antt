-- The fact that holds where a report was refused.
use Rattle.bench.specs.declared.fault.ReportFault.{ReportFault}
use Rattle.bench.specs.declared.fault.ReportFault.TheVariants.{NoMemory, Write}

-- a choice of two facts: one where the report was out of memory, the other where the writer failed
abbrev pub MatchReportFault : ReportFault → Type 0 → Type 0 → Type 0
MatchReportFault NoMemory P Q = P
MatchReportFault Write P Q = Q
