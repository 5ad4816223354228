use Rattle.std.proofs.Common.{◌≡◌, drop, length}
use Rattle.a429_profile.specs.Profile.{entries_of, AreKeyed, ApartAfter}
use Rattle.a429_profile.proofs.profile.keyed.Given as goal

abbrev pub invariant-loop-entry : goal.invariant-loop-entry
invariant-loop-entry l = record {
  entries : entries_of l.labels.entries ≡ l.yielded;
  keyed : AreKeyed l.labels.entries;
  apart : ApartAfter l.yielded (drop (length l.yielded) l.fn.entries.items);
}
