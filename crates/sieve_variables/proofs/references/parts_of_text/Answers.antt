use Rattle.std.proofs.Common.{◌≡◌, ◌+◌, ◌++◌, length, add-one, sym, ◌∙◌, ap, arith}
use Rattle.sieve_variables.specs.Scan.{inside_at}
use Rattle.sieve_variables.proofs.Steps.{last_step, parts_step, plain_step}
use Rattle.sieve_variables.proofs.references.parts_of_text.Goals as goal

pub loop-plain-preserved-in-None : goal.loop-plain-preserved-in-None
loop-plain-preserved-in-None c = record {
  within = omega arith;
  shorter = c.loop-plain.invariant.shorter;
  parts =
      ap (λ further. c.loop-plain.parts ++ further)
      (rw add-one (plain_step c.loop-plain.left.now c.loop-plain.plain c.loop-plain-test.true (c.in-None.ensures.is ∙ ap inside_at c.split_at.ensures.back)))
      ∙ c.loop-plain.invariant.parts;
}

pub loop-plain-preserved : goal.loop-plain-preserved
loop-plain-preserved c =
    let left = c.loop-plain.left.now in
    let inside = c.in-Some.inside.now in
    let plain = c.loop-plain.plain in
    let found = c.in-Some.ensures.is ∙ ap inside_at c.split_at.ensures.back in
    let length_is = c.split_at-in-Some.ensures.back_len in
    let shorter = c.loop-plain.invariant.shorter in
    let count : plain + 3 + length inside ≡ plain + (length inside + 3) = omega arith in
    record {
      within = omega arith;
      shorter = omega arith;
      parts =
          parts_step c.loop-plain.parts c.push_reference.new.parts left plain (plain + 3 + length inside) inside c.split_at.result.0.now c.split_at-in-Some.result.0.now c.split_at-in-Some.result.1.now _ found count c.in_ok-push_reference-in-Some.ensures c.split_at.ensures.front c.split_at-in-Some.ensures.front c.split_at-in-Some.ensures.back c.loop-plain.invariant.parts;
    }

pub returns : goal.returns
returns c =
    c.in_ok-push_literal.ensures
    ∙ ap (λ further. c.loop-plain.parts ++ further) (sym (last_step c.loop-plain.left.now c.loop-plain.plain c.loop-plain-test.false))
    ∙ c.loop-plain.invariant.parts
