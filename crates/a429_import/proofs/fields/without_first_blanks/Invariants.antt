use Rattle.std.proofs.Common.{◌≡◌, ◌≤◌, ◌-◌, drop, length}
use Rattle.a429_import.specs.Fields.{is_blank, without_first}
use Rattle.a429_import.proofs.fields.without_first_blanks.Given as goal

abbrev pub invariant-blanks : goal.invariant-blanks
invariant-blanks l = record {
  same : without_first is_blank (drop l.start l.text) ≡ without_first is_blank l.text;
  inside : l.start ≤ length l.text;
}

abbrev pub decreases-blanks : goal.decreases-blanks
decreases-blanks l = length l.text - l.start
