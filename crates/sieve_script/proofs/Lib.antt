mod ByKind
mod Labelling
mod PositionalRows
pub mod FromEnd
pub mod ScriptSeen
