use Rattle.std.proofs.Common.{◌≡◌, ◌+◌, ◌≤◌}
use Rattle.a429_link.specs.Run.{end_of}
use Rattle.a429_link.specs.Source.{IsIdle}
use Rattle.a429_cert.specs.Series.{gap, give_ups}
use Rattle.a429_cert.proofs.series.give_up_to.Given as goal

abbrev pub invariant-files : goal.invariant-files
invariant-files l = record {
  idle : IsIdle l.link.state.source.phase;
  few : l.link.state.source.give_ups + l.left ≤ 127;
  profile : l.link.profile ≡ l.fn.link.profile;
  to_go : end_of l.link.profile (give_ups l.left) l.link.state
      ≡ end_of l.fn.link.profile (give_ups (gap l.fn.link.state l.fn.first)) l.fn.link.state;
}

abbrev pub decreases-files : goal.decreases-files
decreases-files l = l.left
