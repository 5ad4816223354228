use Rattle.std.proofs.Common.{get_or, subst}
use Rattle.std.specs.Prelude.{flat_map}
use Rattle.std.proofs.lemmas.List.{take_all, get_or_default}
use Rattle.a429_word.specs.Sheet.{Says}
use Rattle.a429_word.proofs.SheetFacts.{◌▹◌}
use Rattle.a429_record.proofs.WritingTexts.{flat_map-more}
use Rattle.a429_view.specs.declared.survey.kind.WordKind.TheVariants.{Rts}
use Rattle.a429_view.specs.Survey.{counted_kind, kinds}
use Rattle.a429_view.proofs.survey.text.put_kinds.Goals as goal

pub loop-i-preserved : goal.loop-i-preserved
loop-i-preserved g c =
    let kind = get_or kinds c.loop-i.i Rts in
    rw (flat_map-more (counted_kind c.args.bus c.args.count.now.kinds) kinds c.loop-i.i kind c.loop-i-test.true
    (get_or_default kinds c.loop-i.i Rts kind c.loop-i-test.true))
    (c.loop-i.invariant ▹ (rw c.hits.ensures at c.put_kind.ensures))

pub returns : goal.returns
returns g c =
    subst (λ ks. Says g.W.Write.contents c.args.sheet.now c.loop-i.sheet (flat_map (counted_kind c.args.bus c.args.count.now.kinds) ks))
    (take_all c.loop-i.i kinds c.loop-i-test.false) c.loop-i.invariant
