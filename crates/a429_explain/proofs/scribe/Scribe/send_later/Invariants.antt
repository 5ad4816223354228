use Rattle.std.proofs.Common.{◌≡◌, None}
use Rattle.a429_explain.specs.Scribe.{WritesNext}
use Rattle.a429_explain.proofs.scribe.Scribe.send_later.Given as goal

abbrev pub invariant-loop : goal.invariant-loop
invariant-loop l = record {
  profile : l.self.link.profile ≡ l.fn.self.link.profile;
  written : WritesNext None l.fn.self l.self;
}
