use Rattle.std.proofs.Common.{◌∙◌, ap}
use Rattle.a429_side.specs.Side.{with_parity}
use Rattle.a429_side.proofs.FieldsFacts.{coded}
use Rattle.a429_side.proofs.lot.readdressed.Goals as goal

pub returns-clause-value : goal.returns-clause-value
returns-clause-value c = c.with_odd_parity.ensures.value
    ∙ ap with_parity (coded c.args.word c.to_u32-number.result c.args.destination c.from.result c.to_u32-number.ensures c.from.ensures)
