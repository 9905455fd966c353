use Rattle.std.proofs.Common.{◌≡◌, ℕ, List, ◌++◌, slice_range, drop, take, length, sym, ap, ◌∙◌, append_assoc}
use Rattle.std.specs.List.{concat, take_while}
use Rattle.std.specs.Str.Lines.{lines}
use Rattle.std.proofs.lemmas.List.{append-nil}
use Rattle.message_text.specs.Blanks.{trim_end, trim_start}
use Rattle.message_text.specs.Fields.{is_continuation}
use Rattle.message_text.proofs.ContinuationLemmas.{concat-continuation}
use Rattle.message_text.proofs.TrimLemmas.{take-trim_end, trim_start-append, trim_start-trim_start}
use Rattle.message_text.proofs.values.unfolded.Goals as goal

pub loop-line-init : goal.loop-line-init
loop-line-init c =
    let first = c.args.first.now in
    let more = concat (take_while is_continuation (lines (drop c.args.next c.args.octets.now))) in
    let is = c.in_ok-value.ensures.items ∙ c.trim_start.ensures in (
      c.requires,
      ap trim_start is ∙ trim_start-trim_start first ∙ sym is,
      ap (λ (value : List ℕ). trim_start (value ++ more)) is ∙ trim_start-append first more,
    )

pub loop-line-preserved : goal.loop-line-preserved
loop-line-preserved c =
    let octets = c.args.octets.now in
    let value = c.loop-line.value.items in
    let line = slice_range octets c.loop-line.start c.in-Some.line.end in
    let after = lines (drop c.in-Some.line.next octets) in
    let more = concat (take_while is_continuation after) in
    let is = c.in_ok-push_trimmed.ensures in (
      c.in-Some.ensures.line.next_within,
      ap trim_start is ∙ trim_start-trim_start (value ++ line) ∙ sym is,
      ap (λ (front : List ℕ). trim_start (front ++ more)) is ∙ trim_start-append (value ++ line) more
          ∙ ap trim_start (append_assoc value line more)
          ∙ ap (λ (rest : List ℕ). trim_start (value ++ rest)) (sym (concat-continuation _ after line c.in-Some.ensures.line.first c.in-Some.ensures.continues))
          ∙ c.loop-line.invariant.2,
    )

pub returns : goal.returns
returns c =
    let octets = c.args.octets.now in
    let value = c.loop-line.value.items in
    let all = c.args.first.now ++ concat (take_while is_continuation (lines (drop c.args.next octets))) in
    let front : value ≡ trim_start all =
    sym c.loop-line.invariant.1 ∙ ap trim_start (sym (append-nil value))
    ∙ ap (λ (rest : List (List ℕ)). trim_start (value ++ concat rest)) (sym c.in_default.ensures.none)
    ∙ c.loop-line.invariant.2 in
    let trimmed = c.trim_end-len.ensures ∙ ap trim_end c.deref.ensures.value in
    c.truncate.ensures.items ∙ ap (λ (text : List ℕ). take (length text) value) trimmed ∙ take-trim_end value ∙ ap trim_end front
