use Rattle.std.proofs.Common.{◌≡◌, ◌-◌, ◌+◌, ◌++◌, ◌∷◌, length, ap, ◌∙◌, arith, List, ℕ, slice_index, [], get_or, min}
use Rattle.std.proofs.lemmas.List.{get_or_read, length_push}
use Rattle.a429_merge.specs.Pair.{last, merged_length}
use Rattle.a429_merge.proofs.SubsequenceFacts.{same_read, other_read}
use Rattle.a429_merge.proofs.PairFacts.{row_most, length_last, last_more, first_value, row_begun, same_value, other_value, row_more, length_most}
use Rattle.a429_merge.proofs.pair.next_row.Goals as goal
use Rattle.a429_merge.proofs.pair.next_row.Goals.{Joined-eq, then-eq, else-eq}

pub overflow_add-below : goal.overflow_add-below
overflow_add-below c = omega (
  arith,
  row_most (last c.args.m c.args.left.now) c.args.right.now c.args.below.now 0 c.requires.row (omega arith),
  length_last c.args.m c.args.left.now (omega arith),
)

pub loop-n-init : goal.loop-n-init
loop-n-init c =
    let first = first_value c.args.left.now c.args.right.now c.args.below.now c.args.m c.requires.more c.requires.row in
    let items : c.push.new.self.items ≡ (slice_index c.args.below.now 0 + 1) ∷ [] =
    c.in_ok-push.ensures.items ∙ ap (λ (xs : List ℕ). xs ++ (slice_index c.args.below.now 0 + 1) ∷ []) c.in_ok-row.ensures.items in
    record {
      long = ap length items;
      each = λ k l. ap (λ (xs : List ℕ). slice_index xs k) items
          ∙ row_begun (last (c.args.m + 1) c.args.left.now) c.args.right.now [] (slice_index c.args.below.now 0 + 1) first k l;
    }

-- the value that comes next
next : (c : Joined-eq) → c.if-eq.rest + 1 ≡ merged_length (last (c.args.m + 1) c.args.left.now) (last (c.loop-n.n + 1) c.args.right.now)
next c =
    let xs = c.args.left.now in
    let ys = c.args.right.now in
    let m = c.args.m in
    let n = c.loop-n.n in
    let x = get_or xs (length xs - 1 - m) 0 in
    let begins = last_more m xs c.requires.more in
    elim c.if-eq.branch [
      | then-eq w ↦
          same_value (last (m + 1) xs) (last m xs) ys c.args.below.now c.loop-n.row.items x n c.if-eq.rest begins c.loop-n-test.true
          c.requires.row c.loop-n.invariant.long c.loop-n.invariant.each
          (same_read xs ys (length xs - 1 - m) (length ys - 1 - n) c.index-left-left.result c.index-right-right.result c.eq.result
          (omega arith) (omega arith) c.index-left-left.is c.index-right-right.is c.eq.ensures w.if-eq.true) w.rest-is
      | else-eq w ↦
          other_value (last (m + 1) xs) (last m xs) ys c.args.below.now c.loop-n.row.items x n c.if-eq.rest begins c.loop-n-test.true
          c.requires.row c.loop-n.invariant.long c.loop-n.invariant.each
          (other_read xs ys (length xs - 1 - m) (length ys - 1 - n) c.index-left-left.result c.index-right-right.result c.eq.result
          (omega arith) (omega arith) c.index-left-left.is c.index-right-right.is c.eq.ensures w.if-eq.false)
          (w.rest-is ∙ c.min-with_one.ensures ∙ ap (λ (v : ℕ). min (get_or c.args.below.now (n + 1) 0) v)
          (get_or_read c.loop-n.row.items n c.index.result.now (let long = c.loop-n.invariant.long in omega arith) c.index.ensures 0))
    ]

pub overflow_add-rest : goal.overflow_add-rest
overflow_add-rest c =
    let j = (goal.at.overflow_add-rest c).Joined-eq in
    omega (
      arith,
      next j,
      length_most (last (c.args.m + 1) c.args.left.now) (last (c.loop-n.n + 1) c.args.right.now),
      length_last (c.args.m + 1) c.args.left.now (omega arith),
      length_last (c.loop-n.n + 1) c.args.right.now (omega arith),
    )

pub loop-n-preserved : goal.loop-n-preserved
loop-n-preserved c =
    let j = (goal.at.loop-n-preserved c).Joined-eq in
    let xs = c.args.left.now in
    let m = c.args.m in
    let items = c.in_ok-push-2.ensures.items in
    record {
      long = ap length items ∙ length_push c.loop-n.row.items (c.if-eq.rest + 1) ∙ ap (λ (k : ℕ). k + 1) c.loop-n.invariant.long;
      each = λ k l. ap (λ (row : List ℕ). slice_index row k) items ∙ row_more (last (m + 1) xs)
          (last m xs) c.args.right.now c.args.below.now c.loop-n.row.items (get_or xs (length xs - 1 - m) 0) c.loop-n.n c.if-eq.rest
          (last_more m xs c.requires.more) c.loop-n-test.true c.requires.row c.loop-n.invariant.long c.loop-n.invariant.each (next j) k l;
    }
