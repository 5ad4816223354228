use Rattle.std.proofs.Common.{◌≡◌, ◌∙◌, ◌-◌, ◌++◌, List, length, drop, ap, sym, refl, arith}
use Rattle.std.proofs.lemmas.List.{length-drop}
use Rattle.a429_record.specs.declared.entry.Entry.{Entry}
use Rattle.a429_parts.specs.Waiting.{entries_of, AreWritten}
use Rattle.a429_parts.proofs.WaitingFacts.{alone, is_end, left, none_in, size_within}
use Rattle.a429_parts.proofs.waiting.Waiting.drop_first.Goals as goal
use Rattle.a429_parts.proofs.waiting.Waiting.drop_first.Goals.{After-drop_front-3, else-is_empty-via-then-is_empty+else-is_empty-2, else-is_empty-via-else-is_empty}

pub drop_front-requires-2 : goal.drop_front-requires-2
drop_front-requires-2 c =
    let s = c.self.inside in
    let cut = c.end_of_first-cut in
    let end =
    is_end _ _ s.before.items s.lines.items s.after.items c.args.size cut.result c.deref.ensures.value c.deref-2.ensures.value
    cut.ensures.before cut.ensures.lines cut.ensures.after in
    omega (arith, end.lines_is, size_within s.lines.items (c.args.size - length s.before.items) c.self.invariant.0)

-- what is left after the drops
dropped : (c : After-drop_front-3) → AreWritten c.drop_front-2.new.list.items
    × (c.drop_front.new.list.items ++ (entries_of c.drop_front-2.new.list.items ++ c.drop_front-3.new.list.items)
    ≡ drop c.args.size (c.self.inside.before.items ++ (entries_of c.self.inside.lines.items ++ c.self.inside.after.items)))
dropped c =
    let s = c.self.inside in
    let cut = c.end_of_first-cut in
    let end =
    is_end _ _ s.before.items s.lines.items s.after.items c.args.size cut.result c.deref.ensures.value c.deref-2.ensures.value
    cut.ensures.before cut.ensures.lines cut.ensures.after in
    left s.before.items s.lines.items s.after.items c.args.size cut.result
    c.drop_front.new.list.items c.drop_front-2.new.list.items c.drop_front-3.new.list.items
    c.self.invariant.0 end c.drop_front.ensures c.drop_front-2.ensures c.drop_front-3.ensures

pub invariant_of-self : goal.invariant_of-self
invariant_of-self c =
    let s = c.self.inside in
    let b = c.drop_front.new.list in
    let l = c.drop_front-2.new.list in
    let a = c.drop_front-3.new.list in
    let rest = dropped (goal.at.invariant_of-self c).After-drop_front-3 in
    let none = none_in b.items b.len (omega (arith, b.ok.0)) (sym c.is_empty.ensures ∙ c.if-is_empty.true) in
    let unlined = none_in l.items l.len (omega (arith, l.ok.0)) (sym c.is_empty-then-is_empty.ensures ∙ c.if-is_empty-2.true) in
    let same =
    alone b.items l.items a.items c.move_to_front.new.before.items c.move_to_front.new.after.items none unlined c.move_to_front.ensures in (
      rest.0,
      omega (
        arith,
        ap length (same ∙ rest.1),
        length-drop c.args.size (s.before.items ++ (entries_of s.lines.items ++ s.after.items)),
        c.self.invariant.1,
      ),
      (omega arith, refl),
    )

pub invariant_of-self-else-is_empty-2 : goal.invariant_of-self-else-is_empty-2
invariant_of-self-else-is_empty-2 c =
    let s = c.self.inside in
    let rest = dropped (goal.at.invariant_of-self-else-is_empty-2 c).After-drop_front-3 in (
      rest.0,
      omega (
        arith,
        ap length rest.1,
        length-drop c.args.size (s.before.items ++ (entries_of s.lines.items ++ s.after.items)),
        c.self.invariant.1,
      ),
      (omega arith, refl),
    )

pub move_to_front-requires : goal.move_to_front-requires
move_to_front-requires c =
    let b = c.drop_front.new.list in
    none_in b.items b.len (omega (arith, b.ok.0)) (sym c.is_empty.ensures ∙ c.if-is_empty.true)

pub invariant_of-self-else-is_empty : goal.invariant_of-self-else-is_empty
invariant_of-self-else-is_empty c =
    let s = c.self.inside in
    let rest = dropped (goal.at.invariant_of-self-else-is_empty c).After-drop_front-3 in (
      rest.0,
      omega (
        arith,
        ap length rest.1,
        length-drop c.args.size (s.before.items ++ (entries_of s.lines.items ++ s.after.items)),
        c.self.invariant.1,
      ),
      (omega arith, refl),
    )

pub returns-then-is_empty-2 : goal.returns-then-is_empty-2
returns-then-is_empty-2 c =
    let b = c.drop_front.new.list in
    let l = c.drop_front-2.new.list in
    let a = c.drop_front-3.new.list in
    let rest = dropped (goal.at.returns-then-is_empty-2 c).After-drop_front-3 in
    let none = none_in b.items b.len (omega (arith, b.ok.0)) (sym c.is_empty.ensures ∙ c.if-is_empty.true) in
    let unlined = none_in l.items l.len (omega (arith, l.ok.0)) (sym c.is_empty-then-is_empty.ensures ∙ c.if-is_empty-2.true) in
    alone b.items l.items a.items c.move_to_front.new.before.items c.move_to_front.new.after.items none unlined c.move_to_front.ensures
    ∙ rest.1 ∙ ap (λ (e : List Entry). drop c.args.size e) c.self.view_is

pub returns-else-is_empty : goal.returns-else-is_empty
returns-else-is_empty c =
    let rest = dropped (goal.at.returns-else-is_empty c).After-drop_front-3 in
    let after = ap (λ (e : List Entry). drop c.args.size e) c.self.view_is in
    elim c.else-is_empty.branch [
      | else-is_empty-via-then-is_empty+else-is_empty-2 w ↦ w.self-is ∙ rest.1 ∙ after
      | else-is_empty-via-else-is_empty w ↦ w.self-is ∙ rest.1 ∙ after
    ]
