use Rattle.std.proofs.Common.{◌≡◌, ◌++◌, ◌<◌, length, OnOk, arith, rules}
use Rattle.std.proofs.lemmas.Bool.{eqb-false}
use Rattle.message_text.proofs.TrimLemmas.{trim_start-keeps}
use Rattle.message_text.proofs.values.push_trimmed.Goals as goal

pub returns-else-is_empty : goal.returns-else-is_empty
returns-else-is_empty c =
    let value = c.args.value.now.items in
    let line = c.args.line.now in
    let some : 0 < length value = grind (arith, eqb-false) in
    let added : OnOk c.extend_from_slice-else-is_empty.result (c.extend_from_slice-else-is_empty.new.self.items ≡ value ++ line) = search rules in
    let keeps = trim_start-keeps value line some c.requires in
    rw keeps added
