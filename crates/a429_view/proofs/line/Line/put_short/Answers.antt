use Rattle.std.proofs.Common.{◌≤◌, ◌∙◌, ap, arith, length, subst}
use Rattle.std.proofs.lemmas.List.{length-take-le, take-take}
use Rattle.a429_view.specs.Line.{Adds}
use Rattle.a429_view.proofs.LineFacts.{within}
use Rattle.a429_view.proofs.line.Line.put_short.Goals as goal

pub returns : goal.returns
returns c =
    let len = c.line.inside.len in
    let bytes = c.line.inside.bytes in
    let short : len ≤ 24 =
    omega (arith, c.requires.short, ap length c.line.view_is, c.line.told, length-take-le len bytes (omega (arith, c.line.told))) in
    subst (Adds c.args.self.now c.put_first.new.self 24) (take-take len 24 bytes short ∙ c.line.view_is)
    (within 24 c.put_first.ensures short)
