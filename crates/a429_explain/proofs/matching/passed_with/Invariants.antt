use Rattle.std.proofs.Common.{◌≡◌, ◌-◌}
use Rattle.a429_ldu.specs.Ldu.{count_of}
use Rattle.a429_explain.specs.Matching.{is_word, passed_with}
use Rattle.a429_explain.proofs.matching.passed_with.Given as goal

abbrev pub invariant-loop-k : goal.invariant-loop-k
invariant-loop-k l =
    passed_with (is_word l.profile.codes l.unit l.place l.word) l.passed (count_of l.unit - l.passed)
    ≡ passed_with (is_word l.profile.codes l.unit l.place l.word) l.k (count_of l.unit - l.k)
