use Rattle.std.proofs.Common.{◌∷◌, [], ◌≡◌, ◌≤◌, ◌+◌, length, sym, ap, ◌∙◌, subst, arith, List, ℕ, ◌++◌, ◌⊎◌, inl, inr, drop}
use Rattle.std.proofs.lemmas.List.{take_rest, get_or_read}
use Rattle.a429_merge.proofs.SubsequenceFacts.{same_read, other_read}
use Rattle.a429_link.specs.Run.{IsSubsequenceOf}
use Rattle.a429_merge.specs.Pair.{merged_length}
use Rattle.a429_merge.proofs.PairFacts.{Walk, walk_both, walk_left, walk_right, end_left, end_right, end_short}
use Rattle.a429_merge.proofs.pair.merge_shortest.Goals as goal
use Rattle.a429_merge.proofs.pair.merge_shortest.Goals.{In_ok-extend_from_slice-2, then-loop-i-test+else-j-right, else-loop-i-test}

pub loop-i-preserved-then-eq : goal.loop-i-preserved-then-eq
loop-i-preserved-then-eq c =
    subst (λ ms. Walk c.args.left.now c.args.right.now (c.loop-i.i + 1) (c.loop-i.j + 1) ms)
    (sym (c.in_ok-push.ensures.items ∙ ap (λ (x : ℕ). c.loop-i.merged.items ++ x ∷ [])
    (get_or_read c.args.left.now c.loop-i.i c.index-left-i-then-eq.result c.loop-i-test.true c.index-left-i-then-eq.is 0)))
    (walk_both c.args.left.now c.args.right.now c.loop-i.i c.loop-i.j c.loop-i.merged.items c.loop-i.invariant c.loop-i-test.true
    c.if-j-right.true
    (same_read c.args.left.now c.args.right.now c.loop-i.i c.loop-i.j c.index-left-i.result c.index-right-j.result c.eq.result
    c.loop-i-test.true c.if-j-right.true c.index-left-i.is c.index-right-j.is c.eq.ensures c.if-eq.true))

pub loop-i-preserved-then-length_from : goal.loop-i-preserved-then-length_from
loop-i-preserved-then-length_from c =
    let a = c.length_from.ensures in
    let b = c.length_from-else-eq.ensures in
    let le : merged_length (drop (c.loop-i.i + 1) c.args.left.now) (drop c.loop-i.j c.args.right.now)
    ≤ merged_length (drop c.loop-i.i c.args.left.now) (drop (c.loop-i.j + 1) c.args.right.now) =
    omega (arith, a, b, c.if-length_from.true) in
    subst (λ ms. Walk c.args.left.now c.args.right.now (c.loop-i.i + 1) c.loop-i.j ms)
    (sym (c.in_ok-push-2.ensures.items ∙ ap (λ (x : ℕ). c.loop-i.merged.items ++ x ∷ []) (get_or_read c.args.left.now c.loop-i.i
    c.index-left-i-then-length_from.result c.loop-i-test.true c.index-left-i-then-length_from.is 0)))
    (walk_left c.args.left.now c.args.right.now c.loop-i.i c.loop-i.j c.loop-i.merged.items c.loop-i.invariant c.loop-i-test.true
    c.if-j-right.true
    (other_read c.args.left.now c.args.right.now c.loop-i.i c.loop-i.j c.index-left-i.result c.index-right-j.result c.eq.result
    c.loop-i-test.true c.if-j-right.true c.index-left-i.is c.index-right-j.is c.eq.ensures c.if-eq.false) le)

pub loop-i-preserved : goal.loop-i-preserved
loop-i-preserved c =
    let a = c.length_from.ensures in
    let b = c.length_from-else-eq.ensures in
    let le : merged_length (drop c.loop-i.i c.args.left.now) (drop (c.loop-i.j + 1) c.args.right.now)
    ≤ merged_length (drop (c.loop-i.i + 1) c.args.left.now) (drop c.loop-i.j c.args.right.now) =
    omega (arith, a, b, c.if-length_from.false) in
    subst (λ ms. Walk c.args.left.now c.args.right.now c.loop-i.i (c.loop-i.j + 1) ms)
    (sym (c.in_ok-push-3.ensures.items ∙ ap (λ (x : ℕ). c.loop-i.merged.items ++ x ∷ []) (get_or_read c.args.right.now c.loop-i.j
    c.index-right-j-else-length_from.result c.if-j-right.true c.index-right-j-else-length_from.is 0)))
    (walk_right c.args.left.now c.args.right.now c.loop-i.i c.loop-i.j c.loop-i.merged.items c.loop-i.invariant c.loop-i-test.true
    c.if-j-right.true
    (other_read c.args.left.now c.args.right.now c.loop-i.i c.loop-i.j c.index-left-i.result c.index-right-j.result c.eq.result
    c.loop-i-test.true c.if-j-right.true c.index-left-i.is c.index-right-j.is c.eq.ensures c.if-eq.false) le)

whole : (c : In_ok-extend_from_slice-2)
    → c.extend_from_slice-2.new.self.items ≡ (c.loop-i.merged.items ++ drop c.loop-i.i c.args.left.now) ++ drop c.loop-i.j c.args.right.now
whole c =
    let left = c.args.left.now in
    let right = c.args.right.now in
    let one : c.extend_from_slice.new.self.items ≡ c.loop-i.merged.items ++ drop c.loop-i.i left =
    c.in_ok-extend_from_slice.ensures.items ∙ ap (λ (xs : List ℕ). c.loop-i.merged.items ++ xs) (take_rest left c.loop-i.i) in
    c.in_ok-extend_from_slice-2.ensures.items
    ∙ ap (λ (ys : List ℕ). c.extend_from_slice.new.self.items ++ ys) (take_rest right c.loop-i.j)
    ∙ ap (λ (ms : List ℕ). ms ++ drop c.loop-i.j right) one

-- the loop ends where one of the lists does
ended : (c : In_ok-extend_from_slice-2) → (length c.args.left.now ≤ c.loop-i.i) ⊎ (length c.args.right.now ≤ c.loop-i.j)
ended c =
    elim c.loop-i-test.branch [ then-loop-i-test+else-j-right w ↦ inr w.if-j-right.false | else-loop-i-test w ↦ inl w.loop-i-test.false ]

pub returns-clause-left : goal.returns-clause-left
returns-clause-left c =
    let a = (goal.at.returns-clause-left c).In_ok-extend_from_slice-2 in
    subst (λ ms. IsSubsequenceOf c.args.left.now ms) (sym (whole a))
    (end_left c.args.left.now c.args.right.now c.loop-i.i c.loop-i.j c.loop-i.merged.items c.loop-i.invariant)

pub returns-clause-right : goal.returns-clause-right
returns-clause-right c =
    let a = (goal.at.returns-clause-right c).In_ok-extend_from_slice-2 in
    subst (λ ms. IsSubsequenceOf c.args.right.now ms) (sym (whole a))
    (end_right c.args.left.now c.args.right.now c.loop-i.i c.loop-i.j c.loop-i.merged.items c.loop-i.invariant)

pub returns-clause-shortest : goal.returns-clause-shortest
returns-clause-shortest c zs h k =
    let a = (goal.at.returns-clause-shortest c).In_ok-extend_from_slice-2 in
    subst (λ ms. length ms ≤ length zs) (sym (whole a))
    (end_short c.args.left.now c.args.right.now c.loop-i.i c.loop-i.j c.loop-i.merged.items c.loop-i.invariant (ended a) zs h k)
