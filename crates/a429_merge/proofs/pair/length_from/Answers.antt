use Rattle.std.proofs.Common.{◌≡◌, ◌-◌, ◌<◌, length, sym, ap, ◌∙◌, arith, List, ℕ, slice_index_or, [], drop}
use Rattle.std.proofs.lemmas.List.{get_or_read, length-map}
use Rattle.a429_merge.specs.Order.{lists_of}
use Rattle.a429_merge.specs.Pair.{last, IsRow, merged_length}
use Rattle.a429_merge.proofs.PairFacts.{row_read, last_from}
use Rattle.a429_merge.proofs.pair.length_from.Goals as goal
use Rattle.a429_merge.proofs.pair.length_from.Goals.{After-index-rows-left}

read : (c : After-index-rows-left)
    → slice_index_or (lists_of c.args.rows.now) (length c.args.left.now - c.args.i) [] ≡ c.index-rows-left.result.items
read c =
    let rows = c.args.rows.now in
    let many : length (lists_of rows) ≡ length rows = length-map rows (λ v. v.items) in
    row_read rows (length c.args.left.now - c.args.i) c.index-rows-left.result
    (omega (arith, many, c.requires.table.long)) c.index-rows-left.is

row : (c : After-index-rows-left)
    → IsRow (last (length c.args.left.now - c.args.i) c.args.left.now) c.args.right.now
    (slice_index_or (lists_of c.args.rows.now) (length c.args.left.now - c.args.i) [])
row c = c.requires.table.at (length c.args.left.now - c.args.i) (omega arith)

pub index-requires : goal.index-requires
index-requires c =
    let a = (goal.at.index-requires c).After-index-rows-left in
    omega (arith, ap length (read a), (row a).long, c.index-rows-left.result.ok.0)

pub returns : goal.returns
returns c =
    let a = (goal.at.returns c).After-index-rows-left in
    let n = length c.args.right.now - c.args.j in
    let items = c.index-rows-left.result.items in
    let inside : n < length items = omega (arith, ap length (read a), (row a).long) in
    get_or_read items n c.index.result.now inside c.index.ensures 0
    ∙ ap (λ (xs : List ℕ). slice_index_or xs n 0) (sym (read a))
    ∙ (row a).at n (omega arith)
    ∙ ap (λ (xs : List ℕ). merged_length xs (last n c.args.right.now)) (last_from c.args.i c.args.left.now c.requires.in_left)
    ∙ ap (λ (ys : List ℕ). merged_length (drop c.args.i c.args.left.now) ys) (last_from c.args.j c.args.right.now c.requires.in_right)
