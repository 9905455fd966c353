use Rattle.std.proofs.Common.{[], false, rules, arith}
use Rattle.std.proofs.KnownBytes.{prepend_known-nil}
use Rattle.session_text.specs.view.Input.{Input}
use Rattle.session_text.proofs.Reading.{reads_both, reads_nothing}
use Rattle.session_server.specs.Session.{served, unmoved}
use Rattle.session_server.proofs.Moving.{moved_both}
use Rattle.session_server.proofs.Sessions.{faults_by, so_far_begins, so_far_more, so_far_ends_by}
use Rattle.session_server.proofs.server.session.Goals as goal

pub loop-end-init : goal.loop-end-init
loop-end-init g c =
    rw c.in-Ok.ensures (
      rw (prepend_known-nil (g.R.Source.remaining c.args.reader.now)) (so_far_begins false (served c.args.bench.now c.args.meter.now) (g.R.Source.remaining c.args.reader.now) (g.W.Sink.contents c.args.writer.now)),
      search rules,
      reads_nothing _ _ _ _ _,
      omega arith,
      unmoved,
    )

pub loop-end-preserved : goal.loop-end-preserved
loop-end-preserved g c = (
  so_far_more _ _ _ _ _ _ _ _ _ _ _ c.in-Continues.ensures.reads.stays_ended c.loop-end.invariant.0 c.in-Continues.ensures.goes,
  c.in-Continues.ensures.known,
  reads_both _ _ _ _ _ _ _ _ _ c.loop-end.invariant.2 c.in-Continues.ensures.reads,
  omega (arith, c.loop-end.invariant.3, c.in-Continues.ensures.faults),
  moved_both _ _ _ c.loop-end.invariant.4 c.in-Continues.ensures.moves,
)

pub returns-in-Ends-clause-session : goal.returns-in-Ends-clause-session
returns-in-Ends-clause-session g c = so_far_ends_by c.in-Ends.end _ _ _ _ _ _ _ _ _ _ _ _ _ _ _ c.in-Ends.ensures.reads.stays_ended c.loop-end.invariant.0 c.in-Ends.ensures.faults c.in-Ends.ensures.goes

pub returns-in-Ends-clause-faults : goal.returns-in-Ends-clause-faults
returns-in-Ends-clause-faults g c =
    let first : Input = record { pending = []; turns = c.args.turns; ended = false } in
    faults_by _ _ _ first _ _ _ _ _ _ _ c.in-Ends.end (reads_both _ _ _ _ _ _ _ _ _ c.loop-end.invariant.2 c.in-Ends.ensures.reads) c.loop-end.invariant.2.faults_kept c.loop-end.invariant.3 c.in-Ends.ensures.faults

pub returns-in-Ends-clause-calls : goal.returns-in-Ends-clause-calls
returns-in-Ends-clause-calls g c =
    let reads = reads_both _ _ _ _ _ _ _ _ _ c.loop-end.invariant.2 c.in-Ends.ensures.reads in
    omega (arith, reads.calls_made.1)

pub returns-in-Ends-clause-moves : goal.returns-in-Ends-clause-moves
returns-in-Ends-clause-moves g c = moved_both _ _ _ c.loop-end.invariant.4 c.in-Ends.ensures.moves

pub returns-in_default-clause-moves : goal.returns-in_default-clause-moves
returns-in_default-clause-moves g c = unmoved
