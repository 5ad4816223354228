use Rattle.std.proofs.Common.{◌∙◌, ◌^◌}
use Rattle.std.specs.Int.{w32, w64}
use Rattle.std.proofs.Math.Facts.{sfits_lit, yes_ltb}
use Rattle.std.proofs.lemmas.Int.{to_z-of_z}
use Rattle.a429_word.specs.Bnr.{raw_of}
use Rattle.a429_word.proofs.FixedHalves.{times_twice}
use Rattle.a429_profile.proofs.ShownFits.{times_range-fits}
use Rattle.a429_profile.proofs.shown.bnr_value.Goals as goal

pub overflow_mul-number : goal.overflow_mul-number
overflow_mul-number c =
    let raw = c.from.ensures ∙ to_z-of_z w32 c.bnr_raw.result (sfits_lit (yes_ltb c.bnr_raw.type_inv)) in
    rw (
      to_z-of_z w64 c.from.result (sfits_lit (yes_ltb c.from.type_inv)),
      to_z-of_z w64 c.from-2.result (sfits_lit (yes_ltb c.from-2.type_inv)),
      raw,
      c.from-2.ensures,
    )
    (times_range-fits c.bnr_raw.result c.args.range c.bnr_raw.type_inv c.requires.range)

pub returns : goal.returns
returns c =
    let raw = c.from.ensures ∙ to_z-of_z w32 c.bnr_raw.result (sfits_lit (yes_ltb c.bnr_raw.type_inv)) in
    let fits = times_range-fits c.bnr_raw.result c.args.range c.bnr_raw.type_inv c.requires.range in
    let value = rw (
      to_z-of_z w64 c.from.result (sfits_lit (yes_ltb c.from.type_inv)),
      to_z-of_z w64 c.from-2.result (sfits_lit (yes_ltb c.from-2.type_inv)),
      raw,
      c.from-2.ensures,
      to_z-of_z w64 _ fits,
      c.bnr_raw.ensures,
    ) at c.over_power_of_two.ensures.value in (
      value ∙ times_twice (raw_of c.args.word c.args.bits) c.args.range (10 ^ c.over_power_of_two.result.decimals),
      c.over_power_of_two.ensures.decimals,
    )
