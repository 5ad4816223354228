use Rattle.std.proofs.Common.{◌∙◌, refl, arith}
use Rattle.std.proofs.lemmas.Option.{slice_get_read}
use Rattle.a429_search.proofs.SearchingFacts.{all_carried, covered_kept, one_carried}
use Rattle.a429_search.proofs.SoundFacts.{add_carried}
use Rattle.a429_search.proofs.searching.Carrier.carried.Goals as goal

pub loop-place-preserved : goal.loop-place-preserved
loop-place-preserved c =
    let p = c.args.profile.now in
    let hyps = c.args.hypotheses.now in
    let old = c.loop-place.next.items in
    let next = c.carry_on.new.next.items in
    let x = c.index-hypotheses-place.result in
    let is = slice_get_read hyps _ c.loop-place.place x refl c.loop-place-test.true c.index-hypotheses-place.is in (
      λ whole t sound may. one_carried p hyps next t c.loop-place.place x
          is
          (λ k h l is covers. covered_kept p old next t c.in_ok-carry_on.ensures.kept
          (c.loop-place.invariant.0 (c.in_ok-carry_on.ensures.cut whole) t sound may k h l is covers))
          (λ covers. c.in_ok-carry_on.ensures.covers whole t sound may covers),
      c.in_ok-carry_on.ensures.at c.loop-place.invariant.1,
      λ real. add_carried p hyps c.args.attempt.now c.loop-place.place x old next is (c.loop-place.invariant.2 real)
          (c.in_ok-carry_on.ensures.only (real c.loop-place.place x is)),
      c.in_ok-carry_on.ensures.entry ∙ c.loop-place.invariant.3,
    )

pub returns-clause-covers : goal.returns-clause-covers
returns-clause-covers c =
    λ whole t sound may. all_carried c.args.profile.now c.args.hypotheses.now c.loop-place.next.items t c.loop-place.place
    (omega (arith, c.loop-place-test.false)) (c.loop-place.invariant.0 whole t sound may)
