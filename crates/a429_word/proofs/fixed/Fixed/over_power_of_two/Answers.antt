use Rattle.std.proofs.Common.{◌∙◌, ap, pos, arith}
use Rattle.std.specs.Int.{w64, w128}
use Rattle.std.proofs.Math.Facts.{sfits_lit, yes_ltb}
use Rattle.std.proofs.lemmas.Int.{to_z-of_z}
use Rattle.a429_word.proofs.FixedHalves.{fives_fit, halves-are}
use Rattle.a429_word.proofs.fixed.Fixed.over_power_of_two.Goals as goal

pub returns-clause-value : goal.returns-clause-value
returns-clause-value c =
    let number = c.from.ensures ∙ to_z-of_z w64 c.args.number (sfits_lit (yes_ltb c.ranges.number.sfits)) in
    let power = c.from-2.ensures ∙ ap pos c.power_of_five.ensures in
    let fits = fives_fit c.args.number c.args.halvings c.ranges.number.sfits (omega arith) in
    rw (
      to_z-of_z w128 c.from.result (sfits_lit (yes_ltb c.from.type_inv)),
      to_z-of_z w128 c.from-2.result (sfits_lit (yes_ltb c.from-2.type_inv)),
      number,
      power,
      to_z-of_z w128 _ fits,
    )
    (halves-are c.args.number c.args.halvings c.args.decimals)
