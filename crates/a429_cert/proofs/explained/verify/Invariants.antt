use Rattle.std.proofs.Common.{ℕ, ◌≡◌, ◌+◌, ◌≤◌, [], length, take, drop}
use Rattle.a429_link.specs.Link.{with_earlier}
use Rattle.a429_cert.specs.Lines.{certificate_lines}
use Rattle.a429_cert.specs.Version.{step_lines}
use Rattle.a429_cert.specs.Explained.{items_of, Reaches}
use Rattle.a429_cert.proofs.explained.verify.Given as goal

abbrev pub invariant-loop-line : goal.invariant-loop-line
invariant-loop-line l = record {
  k : ℕ;
  number : l.n ≡ k + 3;
  room : l.n + length l.lines ≤ length l.certificate + 1;
  rest : certificate_lines l.lines ≡ drop k (drop 2 (certificate_lines l.certificate));
  inside : l.used ≤ length (items_of l.entries);
  profile : l.link.profile ≡ l.profile;
  none_left : l.link.state.sink.received.files ≡ [];
  reached : Reaches l.profile l.head.first (take k (step_lines l.head.version l.certificate)) (take l.used (items_of l.entries))
      (with_earlier l.files.items l.link.state);
}

abbrev pub decreases-loop-line : goal.decreases-loop-line
decreases-loop-line l = length l.lines
