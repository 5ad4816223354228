use Rattle.std.proofs.Common.{◌≡◌, ◌+◌, [], ◌∷◌, ◌++◌, slice_index, subst, sym, arith}
use Rattle.a429_link.specs.Lane.{Lane, lane_at}
use Rattle.a429_link.specs.State.{IsNonEmpty, rest}
use Rattle.a429_link.proofs.LaneFacts.{some_behind, lane_moved}
use Rattle.a429_link.proofs.lane.Lane.take_first.Goals as goal

pub overflow_add-self : goal.overflow_add-self
overflow_add-self c =
    let behind =
    some_behind c.self.inside.boundary c.self.inside.words.items
    (subst (λ (l : Lane). IsNonEmpty l.coming) (sym c.self.view_is) c.requires) in
    omega (arith, behind, c.self.invariant.1)

pub invariant_of-self : goal.invariant_of-self
invariant_of-self c =
    let behind =
    some_behind c.self.inside.boundary c.self.inside.words.items
    (subst (λ (l : Lane). IsNonEmpty l.coming) (sym c.self.view_is) c.requires) in
    (omega (arith, behind), c.self.invariant.1)

pub returns : goal.returns
returns c =
    let behind =
    some_behind c.self.inside.boundary c.self.inside.words.items
    (subst (λ (l : Lane). IsNonEmpty l.coming) (sym c.self.view_is) c.requires) in
    subst (λ (l : Lane). lane_at (c.self.inside.boundary + 1) c.self.inside.words.items ≡ record {
      taken = l.taken ++ slice_index l.coming 0 ∷ [];
      coming = rest l.coming;
    }) c.self.view_is (lane_moved c.self.inside.boundary c.self.inside.words.items behind)
