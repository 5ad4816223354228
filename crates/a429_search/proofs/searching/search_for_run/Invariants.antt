use Rattle.std.proofs.Common.{◌≡◌, ◌-◌, ◌<◌, ◌≤◌, [], None, length, take}
use Rattle.a429_link.specs.Attempt.{attempts}
use Rattle.a429_search.specs.Frontier.{IsAtRequest}
use Rattle.a429_search.specs.Recorded.{IsRequestAt}
use Rattle.a429_search.proofs.FrontierFacts.{CoverNext}
use Rattle.a429_search.proofs.SoundFacts.{AreSureOf}
use Rattle.a429_search.proofs.searching.search_for_run.Given as goal

abbrev pub invariant-attempts : goal.invariant-attempts
invariant-attempts l = record {
  inside : l.from ≤ length l.decoded.items;
  request : l.from < length l.decoded.items → IsRequestAt l.decoded.profile l.decoded.items l.from;
  left_out : IsAtRequest l.decoded.profile l.decoded.items l.search.left_out;
  unsure : IsAtRequest l.decoded.profile l.decoded.items l.search.unsure;
  some : l.search.left_out ≡ None → l.search.hypotheses.items ≡ [] → ⊥;
  sure : l.search.unsure ≡ None → AreSureOf l.decoded.profile l.decoded.items l.from l.search.hypotheses.items;
  covers : l.search.left_out ≡ None
      → CoverNext l.decoded.profile (attempts l.decoded.profile (take l.from l.decoded.items)) l.search.hypotheses.items;
}

abbrev pub decreases-attempts : goal.decreases-attempts
decreases-attempts l = length l.decoded.items - l.from
