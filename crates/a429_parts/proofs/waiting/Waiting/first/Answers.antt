use Rattle.std.proofs.Common.{◌≡◌, ◌≤◌, ◌∙◌, ◌-◌, ◌++◌, List, length, take, ap, sym, arith}
use Rattle.std.proofs.lemmas.List.{length-take-le}
use Rattle.a429_record.specs.declared.entry.Entry.{Entry}
use Rattle.a429_parts.specs.Waiting.{entries_of}
use Rattle.a429_parts.proofs.WaitingFacts.{all_taken, is_end, size_within}
use Rattle.a429_parts.proofs.waiting.Waiting.first.Goals as goal

pub slice_bounds-result-end-2 : goal.slice_bounds-result-end-2
slice_bounds-result-end-2 c =
    let s = c.self.inside in
    let cut = c.end_of_first-cut in
    let end =
    is_end _ _ s.before.items s.lines.items s.after.items c.args.size cut.result c.deref.ensures.value c.deref-2.ensures.value
    cut.ensures.before cut.ensures.lines cut.ensures.after in
    let within = size_within s.lines.items (c.args.size - length s.before.items) c.self.invariant.0 in
    sym (length-take-le cut.result.lines c.deref-5.result.now (omega (arith, end.lines_is, within, ap length c.deref-5.ensures.value)))

pub invariant_of-result : goal.invariant_of-result
invariant_of-result c =
    let s = c.self.inside in
    let cut = c.end_of_first-cut in
    let end =
    is_end _ _ s.before.items s.lines.items s.after.items c.args.size cut.result c.deref.ensures.value c.deref-2.ensures.value
    cut.ensures.before cut.ensures.lines cut.ensures.after in
    let new = all_taken s.before.items s.lines.items s.after.items c.args.size cut.result c.self.invariant.0 end in
    let all : s.before.items ++ (entries_of s.lines.items ++ s.after.items) ≡ c.args.self.now = c.self.view_is in
    let enough : c.args.size ≤ length (s.before.items ++ (entries_of s.lines.items ++ s.after.items)) =
    omega (arith, ap length all, c.requires) in
    rw (c.deref-4.ensures.value, c.deref-5.ensures.value, c.deref-6.ensures.value)
    (new.0, sym (ap length new.1 ∙ length-take-le c.args.size _ enough))

pub returns : goal.returns
returns c =
    let s = c.self.inside in
    let cut = c.end_of_first-cut in
    let end =
    is_end _ _ s.before.items s.lines.items s.after.items c.args.size cut.result c.deref.ensures.value c.deref-2.ensures.value
    cut.ensures.before cut.ensures.lines cut.ensures.after in
    let new = all_taken s.before.items s.lines.items s.after.items c.args.size cut.result c.self.invariant.0 end in
    rw (c.deref-4.ensures.value, c.deref-5.ensures.value, c.deref-6.ensures.value)
    (new.1 ∙ ap (λ (l : List Entry). take c.args.size l) c.self.view_is)
