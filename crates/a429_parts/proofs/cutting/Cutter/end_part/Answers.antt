use Rattle.std.proofs.Common.{ap, rules}
use Rattle.a429_parts.specs.Cutter.{CutterState}
use Rattle.a429_parts.proofs.CutterFacts.{cuts_less}
use Rattle.a429_parts.proofs.cutting.Cutter.end_part.Goals as goal

pub returns-clause-cuts : goal.returns-clause-cuts
returns-clause-cuts c p parted rest h =
    cuts_less p parted rest c.args.size c.args.self.now _ c.requires.part (ap (λ (v : CutterState). v.place) c.self.view_is)
    (ap (λ (v : CutterState). v.place) c.self.view_is) (ap (λ (v : CutterState). v.watched) c.self.view_is) (search rules) h
