use Rattle.std.proofs.Common.{◌≡◌}
use Rattle.a429_cert.specs.Explained.{items_of}
use Rattle.a429_explain.proofs.WalkFacts.{Walks}
use Rattle.a429_explain.proofs.walk.walk.Given as goal

abbrev pub invariant-loop-entry : goal.invariant-loop-entry
invariant-loop-entry l = record {
  walks : Walks l.profile (items_of l.entries) l.entry l.observer;
  entries : l.screening.entries ≡ l.entries;
  label : l.screening.label ≡ l.profile.codes.to_sink;
}
