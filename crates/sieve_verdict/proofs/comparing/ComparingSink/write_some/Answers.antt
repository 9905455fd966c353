use Rattle.std.proofs.Common.{◌≡◌, true, false, drop, get_or, is_some, sym, ap, ◌∙◌}
use Rattle.sieve_verdict.specs.view.Comparing.{begins_with}
use Rattle.sieve_verdict.proofs.Compared.{first_octet, other_taken, taken_more}
use Rattle.sieve_verdict.proofs.comparing.ComparingSink.write_some.Goals as goal

pub returns-then-begins_with-clause-bytes : goal.returns-then-begins_with-clause-bytes
returns-then-begins_with-clause-bytes c =
    let device = c.args.self.now in let bytes = c.args.bytes.now in
    let none : is_some device.other ≡ false = sym c.is_some.ensures ∙ c.if-is_some.false in
    let octet = get_or bytes 0 0 in
    let starts : begins_with octet (drop device.taken device.line.now) ≡ true = sym (ap (begins_with octet) c.split_at.ensures.back) ∙ sym c.begins_with.ensures ∙ c.if-begins_with.true in
    taken_more device.line.now bytes device.taken device.other octet none starts (first_octet bytes c.requires)

pub returns-clause-bytes : goal.returns-clause-bytes
returns-clause-bytes c =
    let device = c.args.self.now in let bytes = c.args.bytes.now in
    let none : is_some device.other ≡ false = sym c.is_some.ensures ∙ c.if-is_some.false in
    other_taken device.line.now bytes device.taken device.other (get_or bytes 0 0) none (first_octet bytes c.requires)
