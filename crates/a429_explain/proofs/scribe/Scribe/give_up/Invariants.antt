use Rattle.std.proofs.Common.{◌≡◌, None}
use Rattle.a429_explain.specs.Scribe.{WritesNext, CanMake, giving_up, link_after}
use Rattle.a429_explain.proofs.scribe.Scribe.give_up.Given as goal

abbrev pub invariant-loop-left : goal.invariant-loop-left
invariant-loop-left l = record {
  profile : l.self.link.profile ≡ l.fn.self.link.profile;
  written : WritesNext None l.fn.self l.self;
  can : CanMake (giving_up l.files) l.fn.self.link → CanMake (giving_up l.left) l.self.link;
  to_go : link_after (giving_up l.left) l.self.link ≡ link_after (giving_up l.files) l.fn.self.link;
}

abbrev pub decreases-loop-left : goal.decreases-loop-left
decreases-loop-left l = l.left
