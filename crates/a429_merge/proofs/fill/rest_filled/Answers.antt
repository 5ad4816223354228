use Rattle.std.proofs.Common.{◌-◌, ◌++◌, ◌∷◌, [], length, ap, ◌∙◌, arith, length-append}
use Rattle.a429_merge.specs.Fill.{filler}
use Rattle.a429_merge.proofs.FillFacts.{filler_more}
use Rattle.a429_merge.proofs.fill.rest_filled.Goals as goal

pub loop-filler-preserved : goal.loop-filler-preserved
loop-filler-preserved c =
    let f = filler c.args.profile.now.codes in
    let rest = c.loop-filler.rest.items in
    let pushed = c.in_ok-push.ensures.items ∙ ap (λ w. rest ++ w ∷ []) c.filler-filler.ensures in
    record {
      some = omega (arith, ap length pushed, length-append rest (f ∷ []), c.loop-filler-test.true, c.len.ensures);
      rest = filler_more (c.args.count - 1) f rest c.push.new.self.items (omega (arith, c.loop-filler-test.true, c.len.ensures)) pushed
          ∙ c.loop-filler.invariant.rest;
    }
