use Rattle.std.proofs.Common.{◌≡◌, subst, sym}
use Rattle.a429_link.specs.Lane.{Lane, lane_at}
use Rattle.a429_link.specs.State.{IsNonEmpty, rest}
use Rattle.a429_link.proofs.LaneFacts.{some_behind, lane_removed}
use Rattle.a429_link.proofs.lane.Lane.drop_first.Goals as goal

pub returns : goal.returns
returns c =
    let behind =
    some_behind c.self.inside.boundary c.self.inside.words.items
    (subst (λ (l : Lane). IsNonEmpty l.coming) (sym c.self.view_is) c.requires) in
    subst (λ (l : Lane). lane_at c.self.inside.boundary c.remove.new.self.items ≡ record { taken = l.taken; coming = rest l.coming })
    c.self.view_is (lane_removed c.self.inside.boundary c.self.inside.words.items c.remove.new.self.items behind c.remove.ensures.items)
