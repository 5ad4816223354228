use Rattle.a429_view.proofs.BlocksFacts.{last_more}
use Rattle.a429_view.proofs.blocks.Blocks.put_last.Goals as goal

pub returns : goal.returns
returns g c p es h = record { more = _; is = last_more p c.args.self.now es h; says = c.put_last.ensures }
