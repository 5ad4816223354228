use Rattle.std.proofs.Common.{map, ◌∙◌, sym, refl, arith, subst, ◌+◌}
use Rattle.a429_link.proofs.CleanFiles.{file_at, past_files}
use Rattle.a429_commands.proofs.MakeCounted.{AreCounted, counted_start, counted_more, counted_refused, counted_end, all_room, too_many, vec_size}
use Rattle.a429_commands.proofs.engines.make.check_files.Goals as goal

pub loop-k-init : goal.loop-k-init
loop-k-init c = counted_start (map (λ f. f.items) c.args.files.now)

pub returns-in-Err-clause-err : goal.returns-in-Err-clause-err
returns-in-Err-clause-err c =
    let file = c.index-files-k.result.items in
    let at = file_at c.args.files.now c.loop-k.k c.index-files-k.result file c.loop-k-test.true c.index-files-k.is refl in (
      counted_refused (map (λ f. f.items) c.args.files.now) c.loop-k.k c.loop-k.count file c.in-Err.fault at.0 at.1
          (c.in-Err.ensures.refused file (vec_size c.index-files-k.result ∙ sym c.len.ensures)) c.loop-k.invariant,
      c.in-Err.ensures.fault,
    )

pub loop-k-preserved : goal.loop-k-preserved
loop-k-preserved c =
    let files = map (λ f. f.items) c.args.files.now in
    let file = c.index-files-k.result.items in
    let at = file_at c.args.files.now c.loop-k.k c.index-files-k.result file c.loop-k-test.true c.index-files-k.is refl in
    let size = vec_size c.index-files-k.result ∙ sym c.len.ensures in
    subst (AreCounted files (c.loop-k.k + 1)) (sym c.saturating_add-count.ensures)
    (counted_more files c.loop-k.k c.loop-k.count c.in-Ok.words file at.0 at.1 (c.in-Ok.ensures.fine file size)
    (c.in-Ok.ensures.count file size) c.loop-k.invariant)

pub returns-then-count-gt-MOST_ENTRIES-clause-err : goal.returns-then-count-gt-MOST_ENTRIES-clause-err
returns-then-count-gt-MOST_ENTRIES-clause-err c =
    let files = map (λ f. f.items) c.args.files.now in
    let all =
    counted_end files c.loop-k.k c.loop-k.count
    (past_files c.args.files.now c.loop-k.k (omega (arith, c.loop-k-test.false))) c.loop-k.invariant in
    (refl, too_many files c.loop-k.count all.0 all.1 c.if-count-gt-MOST_ENTRIES.true)

pub returns-clause-cut : goal.returns-clause-cut
returns-clause-cut c =
    (counted_end (map (λ f. f.items) c.args.files.now) c.loop-k.k c.loop-k.count
    (past_files c.args.files.now c.loop-k.k (omega (arith, c.loop-k-test.false))) c.loop-k.invariant).0

pub returns-clause-room : goal.returns-clause-room
returns-clause-room c =
    let files = map (λ f. f.items) c.args.files.now in
    let all =
    counted_end files c.loop-k.k c.loop-k.count
    (past_files c.args.files.now c.loop-k.k (omega (arith, c.loop-k-test.false))) c.loop-k.invariant in
    all_room files c.loop-k.count all.1 c.if-count-gt-MOST_ENTRIES.false
