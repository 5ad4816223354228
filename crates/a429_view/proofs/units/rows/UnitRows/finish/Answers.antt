use Rattle.std.proofs.Common.{rules, ℕ, List, [], subst}
use Rattle.std.proofs.lemmas.List.{append-nil}
use Rattle.a429_view.specs.UnitSteps.{line_before, PutsInPart}
use Rattle.a429_view.proofs.UnitsTried.{part_both}
use Rattle.a429_view.proofs.units.rows.UnitRows.finish.Goals as goal

pub returns-clause-ok : goal.returns-clause-ok
returns-clause-ok g c = search rules

pub returns-clause-part : goal.returns-clause-part
returns-clause-part g c =
    let line = line_before c.args.self.now.row in
    let new = c.put_waiting.new.self in
    subst (λ (t : List ℕ). PutsInPart g.W.Write.contents c.args.self.now new t) (append-nil line)
    (part_both g.W.Write.contents c.args.self.now c.put_last.new.self new line [] c.put_last.ensures.part c.put_waiting.ensures.part)
