use Rattle.std.proofs.Common.{◌≡◌, ◌+◌, ◌<◌, ◌≤◌, length, arith}
use Rattle.std.proofs.lemmas.Bool.{eq-eqb, eqb-true}
use Rattle.a429_merge.proofs.SubsequenceFacts.{same_read, other_read, rest_same, rest_other, rest_none, rest_end, both}
use Rattle.a429_merge.proofs.subsequence.is_subsequence.Goals as goal
use Rattle.a429_merge.proofs.subsequence.is_subsequence.Goals.{then-matched-words+then-eq, else-matched-words, else-matched-words-via-then-matched-words+else-eq, else-matched-words-via-else-matched-words}

pub loop-word-preserved : goal.loop-word-preserved
loop-word-preserved c =
    let xs = c.args.words.now in
    let ys = c.args.of.now in
    let m = c.loop-word.matched in
    let n = c.loop-word.word-index in
    let on : n < length ys = omega arith in
    let before = c.loop-word.invariant.same in
    elim c.if-matched-words.branch [
      | then-matched-words+then-eq w ↦
          rw w.matched-is (record {
            inside = omega arith;
            same =
                both _ _ _ before
                (rest_same xs ys m n (omega arith) on (same_read xs ys m n w.index-words-matched.result c.word-item.result w.eq.result
                (omega arith) on w.index-words-matched.is c.word-item.is w.eq.ensures w.if-eq.true));
          })
      | else-matched-words w ↦
          rw w.matched-is (record {
            inside = omega arith;
            same = both _ _ _ before (elim w.else-matched-words.branch [
              | else-matched-words-via-then-matched-words+else-eq v ↦
                  rest_other xs ys m n (omega arith) on
                  (other_read xs ys m n v.index-words-matched.result c.word-item.result v.eq.result
                  (omega arith) on v.index-words-matched.is c.word-item.is v.eq.ensures v.if-eq.false)
              | else-matched-words-via-else-matched-words v ↦ rest_none xs ys m n (n + 1) (omega arith)
            ]);
          })
    ]

pub returns : goal.returns
returns c =
    let xs = c.args.words.now in
    let ys = c.args.of.now in
    let m = c.loop-word.matched in
    let end : length ys ≤ c.loop-word.word-index = omega arith in
    let same = both _ _ _ c.loop-word.invariant.same (rest_end xs ys m c.loop-word.word-index end) in (
      (λ h. same.1 (let e : m ≡ length xs = eqb-true m (length xs) h in omega arith)),
      (λ h. let k : length xs ≤ m = same.0 h in eq-eqb m (length xs) (omega arith)),
    )
