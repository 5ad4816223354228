use Rattle.std.proofs.Common.{◌+◌, length, sym, ap, ◌∙◌, subst, arith, ℕ, slice_index_or, []}
use Rattle.std.proofs.lemmas.List.{length_push}
use Rattle.a429_merge.specs.Order.{lists_of}
use Rattle.a429_merge.specs.Pair.{last, IsRow}
use Rattle.a429_merge.proofs.PairFacts.{row_read, rows_more}
use Rattle.a429_merge.proofs.pair.merged_lengths.Goals as goal

pub next_row-requires-clause-row : goal.next_row-requires-clause-row
next_row-requires-clause-row c =
    let rows = c.loop-m.rows.items in
    let m = c.loop-m.m in
    let read = row_read rows m c.index.result.now (omega arith) c.index.ensures in
    subst (λ row. IsRow (last m c.args.left.now) c.args.right.now row) (read ∙ sym c.deref.ensures.value)
    (c.loop-m.invariant.each m (omega arith))

pub loop-m-preserved : goal.loop-m-preserved
loop-m-preserved c =
    let rows = c.loop-m.rows.items in
    let items = c.in_ok-push-2.ensures.items in
    record {
      long = ap length items ∙ length_push rows c.in_ok-row.row ∙ ap (λ (k : ℕ). k + 1) c.loop-m.invariant.long;
      each = λ k l. subst (λ rows. IsRow (last k c.args.left.now) c.args.right.now (slice_index_or (lists_of rows) k [])) (sym items)
          (rows_more c.args.left.now c.args.right.now rows c.in_ok-row.row c.loop-m.m c.loop-m.invariant.long c.loop-m.invariant.each
          c.in_ok-row.ensures k l);
    }
