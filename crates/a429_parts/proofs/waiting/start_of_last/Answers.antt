use Rattle.std.proofs.Common.{◌∙◌, ◌-◌, Some, None, sym, arith}
use Rattle.std.proofs.lemmas.List.{length-take-le}
use Rattle.a429_parts.proofs.WaitingFacts.{last_begins, last_within}
use Rattle.a429_parts.proofs.waiting.start_of_last.Goals as goal
use Rattle.a429_parts.proofs.waiting.start_of_last.Goals.{in-Some, in-None}

pub slice_bounds-memrchr-count : goal.slice_bounds-memrchr-count
slice_bounds-memrchr-count c =
    (last_within c.args.lines.now c.loop.counter c.loop.start c.requires.written (omega arith) c.loop.invariant).0

pub slice_bounds-memrchr-length : goal.slice_bounds-memrchr-length
slice_bounds-memrchr-length c =
    let within = last_within c.args.lines.now c.loop.counter c.loop.start c.requires.written (omega arith) c.loop.invariant in
    sym (length-take-le (c.loop.start - 1) c.args.lines.now (omega (arith, within.1)))

pub loop-preserved : goal.loop-preserved
loop-preserved c =
    elim c.match-memrchr.branch [
      | in-Some w ↦ w.start-is ∙ last_begins c.args.lines.now c.loop.counter c.loop.start (Some w.in-Some.end) c.requires.written
          (omega arith) c.loop.invariant w.in-Some.ensures
      | in-None w ↦ w.start-is
          ∙ sym (last_begins c.args.lines.now c.loop.counter c.loop.start None c.requires.written
          (omega arith) c.loop.invariant w.in-None.ensures)
    ]
