use Rattle.std.proofs.Common.{◌≤◌, ◌∙◌, ap, arith, length, subst}
use Rattle.std.proofs.lemmas.List.{length-take-le, take-take}
use Rattle.a429_word.specs.Sheet.{Says}
use Rattle.a429_view.proofs.line.Line.put_on.Goals as goal

pub put_first-requires-clause-count : goal.put_first-requires-clause-count
put_first-requires-clause-count g c =
    let len = c.self.inside.len in
    omega (arith, c.requires, ap length c.self.view_is, c.self.told, length-take-le len c.self.inside.bytes (omega (arith, c.self.told)))

pub returns : goal.returns
returns g c =
    let len = c.self.inside.len in
    let bytes = c.self.inside.bytes in
    let short : len ≤ 32 =
    omega (arith, c.requires, ap length c.self.view_is, c.self.told, length-take-le len bytes (omega (arith, c.self.told))) in
    subst (Says g.W.Write.contents c.args.sheet.now c.put_first.new.self)
    (take-take len 32 bytes short ∙ c.self.view_is) c.put_first.ensures
