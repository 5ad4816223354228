use Rattle.std.proofs.Common.{◌≡◌, ◌≤◌, ◌-◌, ◌++◌, drop, length, take, false}
use Rattle.std.specs.List.{list_any}
use Rattle.a429_import.specs.Fields.{is_mark}
use Rattle.a429_import.specs.Piece.{starts_from}
use Rattle.a429_import.proofs.fields.find_starts.Given as goal

abbrev pub invariant-bytes : goal.invariant-bytes
invariant-bytes l = record {
  same : starts_from l.at 0 l.text ≡ l.starts.items ++ starts_from l.at l.place (drop l.place l.text);
  plain : list_any (is_mark l.quotes) (take l.place l.text) ≡ false;
  inside : l.place ≤ length l.text;
}

abbrev pub decreases-bytes : goal.decreases-bytes
decreases-bytes l = length l.text - l.place
