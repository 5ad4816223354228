use Rattle.std.proofs.Common.{◌∙◌, ◌++◌, ◌∷◌, [], List, length, ap, sym, arith}
use Rattle.std.proofs.lemmas.List.{length_push}
use Rattle.a429_record.specs.declared.entry.Entry.{Entry}
use Rattle.a429_parts.specs.Waiting.{entries_of}
use Rattle.a429_parts.proofs.WaitingFacts.{end_stays, line_pushed, entry_pushed, none_in}
use Rattle.a429_parts.proofs.waiting.Waiting.push.Goals as goal
use Rattle.a429_parts.proofs.waiting.Waiting.push.Goals.{then-is_empty+then-has_room+in_ok-append_to, else-is_empty+in_ok-push}

pub invariant_of-self-2 : goal.invariant_of-self-2
invariant_of-self-2 c =
    let s = c.self.inside in
    let e = c.args.entry in
    let all = s.before.items ++ (entries_of s.lines.items ++ s.after.items) in
    elim c.if-is_empty.branch [
      | then-is_empty+then-has_room+in_ok-append_to w ↦
          let none = none_in s.after.items s.after.len (omega (arith, s.after.ok.0)) (sym c.is_empty.ensures ∙ w.if-is_empty.true) in
          let new =
          line_pushed s.before.items s.lines.items c.args.line.now w.append_to.new.text.items s.after.items e c.self.invariant.0
          (omega arith) (omega arith) c.requires none w.in_ok-append_to.ensures.ok in
          let end =
          end_stays s.lines.items c.args.line.now w.append_to.new.text.items e s.noted c.self.invariant.0 (omega arith)
          (omega arith) c.requires w.in_ok-append_to.ensures.ok c.self.invariant.2 in
          rw w.self-inside-is (new.0, omega (arith, c.in-Some.ensures, ap length new.1, length_push all e), end)
      | else-is_empty+in_ok-push w ↦
          let new = entry_pushed s.before.items s.lines.items s.after.items w.push.new.self.items e w.in_ok-push.ensures.items in
          rw w.self-inside-is (c.self.invariant.0, omega (arith, c.in-Some.ensures, ap length new, length_push all e), c.self.invariant.2)
    ]

pub returns-clause-ok : goal.returns-clause-ok
returns-clause-ok c =
    let s = c.self.inside in
    let e = c.args.entry in
    let after = ap (λ (l : List Entry). l ++ e ∷ []) c.self.view_is in
    elim c.if-is_empty.branch [
      | then-is_empty+then-has_room+in_ok-append_to w ↦
          let none = none_in s.after.items s.after.len (omega (arith, s.after.ok.0)) (sym c.is_empty.ensures ∙ w.if-is_empty.true) in
          let new =
          line_pushed s.before.items s.lines.items c.args.line.now w.append_to.new.text.items s.after.items e c.self.invariant.0
          (omega arith) (omega arith) c.requires none w.in_ok-append_to.ensures.ok in
          rw w.self-inside-is (new.1 ∙ after)
      | else-is_empty+in_ok-push w ↦
          let new = entry_pushed s.before.items s.lines.items s.after.items w.push.new.self.items e w.in_ok-push.ensures.items in
          rw w.self-inside-is (new ∙ after)
    ]
