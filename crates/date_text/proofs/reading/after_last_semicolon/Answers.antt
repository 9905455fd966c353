use Rattle.std.proofs.Common.{ℕ, not, ◌==◌, arith}
use Rattle.std.proofs.lemmas.List.Sums.{suffix_len-le-length}
use Rattle.octets.specs.Octet.{octet_of}
use Rattle.date_text.proofs.reading.after_last_semicolon.Goals as goal

pub overflow_sub-value : goal.overflow_sub-value
overflow_sub-value c = omega (arith, c.tail_len.ensures, suffix_len-le-length (λ (octet : ℕ). not (octet == octet_of ";")) c.args.value.now)
