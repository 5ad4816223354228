use Rattle.std.proofs.Common.{refl, take, drop, arith, rules, length-take}
use Rattle.std.proofs.lemmas.List.{append-nil, drop-drop, drop_all}
use Rattle.a429_record.proofs.LinesFacts.{ahead_slice, split_end}
use Rattle.a429_record.proofs.lines.Lines.take_part.Goals as goal

pub returns-in_ok-extend_from_slice-in-Some-clause-part : goal.returns-in_ok-extend_from_slice-in-Some-clause-part
returns-in_ok-extend_from_slice-in-Some-clause-part c =
    let s = c.args.self.now in
    let all = drop s.at (take s.filled s.buffer) in
    let n = c.in-Some.n in
    let same = ahead_slice s.buffer s.at s.filled s.ordered in
    let found = rw same at c.in-Some.ensures.found in
    let split = split_end all n found.0 found.2 in
    (take n all, found.1, rw (← same) (search rules), rw drop-drop at split)

pub returns-in_ok-extend_from_slice-in-None-clause-part : goal.returns-in_ok-extend_from_slice-in-None-clause-part
returns-in_ok-extend_from_slice-in-None-clause-part c =
    let s = c.args.self.now in
    let all = drop s.at (take s.filled s.buffer) in
    let same = ahead_slice s.buffer s.at s.filled s.ordered in
    let none = rw same at c.in-None.ensures.none in (
      all,
      none,
      rw (← same) (search rules),
      rw (append-nil, drop_all s.filled (take s.filled s.buffer) (simp length-take (omega arith)), append-nil) refl,
    )
