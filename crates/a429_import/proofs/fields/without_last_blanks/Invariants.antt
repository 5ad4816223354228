use Rattle.std.proofs.Common.{◌≡◌, ◌≤◌, take, length}
use Rattle.a429_import.specs.Fields.{is_blank, without_last}
use Rattle.a429_import.proofs.fields.without_last_blanks.Given as goal

abbrev pub invariant-blanks : goal.invariant-blanks
invariant-blanks l = record {
  same : without_last is_blank (take l.end l.text) ≡ without_last is_blank l.text;
  inside : l.end ≤ length l.text;
}

abbrev pub decreases-blanks : goal.decreases-blanks
decreases-blanks l = l.end
