use Rattle.std.proofs.Common.{◌∙◌, ap, arith, sym}
use Rattle.a429_link.specs.declared.number.UnitNumber.{UnitNumber}
use Rattle.a429_search.proofs.StandingFacts.{at_can, at_regular, can_first, come_first}
use Rattle.a429_search.proofs.standing.Standing.first_ways.Goals as goal

pub returns-then-all-lt-MOST_GIVE_UPS-clause-only : goal.returns-then-all-lt-MOST_GIVE_UPS-clause-only
returns-then-all-lt-MOST_GIVE_UPS-clause-only c = λ regular.
    let first = c.args.first_ldu in
    let s = c.args.self.now in
    let n = c.args.number in
    let ldu = c.if-number-from.false ∙ c.from.ensures in
    let joined = c.began.ensures in
    let begun = c.began-then-all-lt-MOST_GIVE_UPS.ensures in
    record {
      join = λ m g r h.
          let q = at_can first c.began.result n m g joined.at h in (
            sym q.0,
            can_first first s m g c.requires (ap (λ (x : UnitNumber). x.ldu) q.0 ∙ ldu)
                (omega (arith, q.1, joined.give_ups, c.all_give_ups-all.ensures)),
          );
      begin = λ m g r h.
          let q = at_can first c.began-then-all-lt-MOST_GIVE_UPS.result n m g begun.at h in (
            sym q.0,
            (λ _. come_first first s m g c.requires r (ap (λ (x : UnitNumber). x.ldu) q.0 ∙ ldu)
                (omega (arith, q.1, begun.give_ups, c.all_give_ups-all.ensures))),
            (λ off. absurd (cc (off, c.if-has_group.true))),
          );
      join_regular =
          at_regular first c.began.result n joined.at (omega arith) (omega (arith, ldu))
          (omega (arith, joined.give_ups, c.if-all-lt-MOST_GIVE_UPS.true));
      begin_regular =
          at_regular first c.began-then-all-lt-MOST_GIVE_UPS.result n begun.at (omega arith) (omega (arith, ldu))
          (omega (arith, begun.give_ups, c.if-all-lt-MOST_GIVE_UPS.true));
    }
