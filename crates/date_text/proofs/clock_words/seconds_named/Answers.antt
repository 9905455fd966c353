use Rattle.std.proofs.Common.{ℕ, ◌+◌, drop, sym, ap, ◌∙◌, arith}
use Rattle.std.specs.Option.{option_and_then}
use Rattle.date_text.specs.Clock.{last_second, number_after}
use Rattle.date_text.specs.Number.{up_to}
use Rattle.date_text.proofs.ClockLemmas.{of_some, one_more}
use Rattle.date_text.proofs.clock_words.seconds_named.Goals as goal

pub returns-in-None : goal.returns-in-None
returns-in-None c =
    let digits = c.args.digits.now in
    let i = c.loop-octet.octet-index in
    record {
      is =
          ap (option_and_then (λ (m : ℕ). up_to last_second (number_after m (drop (i + 1) digits)))) c.in-None.ensures.is
          ∙ sym (one_more last_second c.loop-octet.seconds digits i c.loop-octet-test.true)
          ∙ c.loop-octet.invariant.same
          ∙ sym (of_some digits (omega arith));
    }
