use Rattle.std.proofs.Common.{◌≤◌, ◌↔◌, length}
use Rattle.a429_link.specs.Run.{IsSubsequenceOf}
use Rattle.a429_merge.proofs.SubsequenceFacts.{Rest}
use Rattle.a429_merge.proofs.subsequence.is_subsequence.Given as goal

abbrev pub invariant-loop-word : goal.invariant-loop-word
invariant-loop-word l = record {
  inside : l.matched ≤ length l.words;
  same : IsSubsequenceOf l.words l.of ↔ Rest l.words l.matched l.of l.word-index;
}
