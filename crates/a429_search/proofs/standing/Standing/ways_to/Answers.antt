use Rattle.std.proofs.Common.{◌≡◌, ◌+◌, ◌-◌, ◌%◌, ◌∙◌, ℕ, Bool, refl, sym, subst, arith}
use Rattle.a429_search.specs.Standing.{IsRegular}
use Rattle.a429_search.proofs.StandingFacts.{at_can, at_regular, can_later, come_known, less, number_past}
use Rattle.a429_search.proofs.standing.Standing.ways_to.Goals as goal
use Rattle.a429_search.proofs.standing.Standing.ways_to.Goals.{else-past-self-2-via-then-past-self-2+else-has_group, else-past-self-2-via-else-past-self-2}

pub returns-clause-only : goal.returns-clause-only
returns-clause-only c = λ regular.
    let first = c.args.first_ldu in
    let s = c.args.self.now in
    let n = c.args.number in
    let known = c.args.known in
    let d : ℕ = (n.file + (256 - known.file)) % 256 in
    let at = c.at-next.ensures in
    let ldu = c.if-not-begins_file.false ∙ c.from-3.ensures in
    let is = number_past first n known d refl c.if-past-eq0-2.false (omega arith) (omega arith) ldu in
    record {
      join = tt;
      begin = λ m g range h.
          let q = at_can first c.at-next.result n m g at.at h in
          let all : g ≡ s.give_ups + d =
          omega (arith, q.1, at.give_ups, c.from.ensures, c.from-2.ensures, c.if-give_ups-gt-MOST_GIVE_UPS.false) in (
            sym q.0,
            (λ group. elim c.else-past-self-2.branch [
              | else-past-self-2-via-then-past-self-2+else-has_group w ↦ absurd (cc (group, w.if-has_group.false))
              | else-past-self-2-via-else-past-self-2 w ↦
                  come_known first s known c.requires (subst (λ (b : Bool). IsRegular first s b) group regular) m g d
                  (less s.since d c.if-past-self.false w.if-past-self-2.false) (q.0 ∙ is) all
            ]),
            (λ off. can_later first s known m g d (subst (λ (b : Bool). IsRegular first s b) off regular) c.requires c.if-past-self.false
                (q.0 ∙ is) all),
          );
      join_regular = tt;
      begin_regular =
          at_regular first c.at-next.result n at.at (omega arith) (omega (arith, ldu))
          (omega (arith, at.give_ups, c.from.ensures, c.from-2.ensures, c.if-give_ups-gt-MOST_GIVE_UPS.false));
    }
