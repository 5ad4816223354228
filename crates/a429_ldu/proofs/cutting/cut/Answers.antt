use Rattle.std.proofs.Common.{rules, ◌-◌, ◌*◌, ◌/◌, List, sym, ap, ◌∙◌, arith, subst}
use Rattle.std.proofs.lemmas.Bool.{eqb-false}
use Rattle.a429_ldu.specs.Ldu.{LduValue}
use Rattle.a429_ldu.specs.Cut.{pieces, units_in}
use Rattle.a429_ldu.proofs.CutFacts.{AreUnits, units, all_small}
use Rattle.a429_ldu.proofs.cutting.cut.Goals as goal

cut_units : (c : goal.In-Ok) → AreUnits c.args.profile.now c.args.max_words c.args.bytes.now c.in-Ok.units.items
cut_units c =
    let p = c.args.profile.now in
    let bytes = c.args.bytes.now in
    let some = eqb-false _ 0 (sym c.if-is_empty.ensures) in
    let same = c.in-Ok.ensures.units ∙ ap (λ n. units_in p (pieces 255 ((n - 2) * 5 / 2) bytes)) c.from.ensures in
    subst (λ (us : List LduValue). AreUnits p c.args.max_words bytes us) (sym same)
    (units p c.in-Ok.ensures.profile c.args.max_words bytes c.requires (omega arith)
    (all_small bytes (λ i. let h = c.type_inv.bytes i in omega arith)) (omega (arith, some)) (omega arith))

pub returns-in-Ok-clause-sound : goal.returns-in-Ok-clause-sound
returns-in-Ok-clause-sound c = (cut_units c).sound

pub returns-in-Ok-clause-fits : goal.returns-in-Ok-clause-fits
returns-in-Ok-clause-fits c = (cut_units c).fits

pub returns-in-Ok-clause-joined : goal.returns-in-Ok-clause-joined
returns-in-Ok-clause-joined c = (cut_units c).joined

pub returns-in-Ok-clause-last : goal.returns-in-Ok-clause-last
returns-in-Ok-clause-last c = (cut_units c).last

pub returns-then-bytes-room-clause-long : goal.returns-then-bytes-room-clause-long
returns-then-bytes-room-clause-long c = search rules

pub returns-in-Ok-clause-units : goal.returns-in-Ok-clause-units
returns-in-Ok-clause-units c = search rules
