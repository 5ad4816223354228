use Rattle.std.proofs.Common.{sym, ap, ◌∙◌, ◌++◌, append_assoc, rules, refl, []}
use Rattle.std.specs.Slice.Iter.{chunks_rest}
use Rattle.a429_word.proofs.SheetFacts.{◌▹◌, says_nothing}
use Rattle.a429_view.proofs.ShowFacts.{AreShowLines-join, AreShowLines-first}
use Rattle.a429_view.proofs.show.put_shown_lines.Goals as goal

pub loop-piece-init : goal.loop-piece-init
loop-piece-init g c = (search rules, tt, search rules, [], search rules, ([], refl, says_nothing _ _))

pub loop-piece-preserved : goal.loop-piece-preserved
loop-piece-preserved g c =
    let before = c.loop-piece.invariant in
    let steps = c.in-Some.ensures.steps in
    let lines = c.put_piece.ensures in
    let piece = c.in-Some.piece.now in (
      search rules,
      tt,
      steps.0 ∙ before.2,
      before.3 ++ piece,
      append_assoc before.3 piece (chunks_rest c.next.new.self) ∙ ap (λ l. before.3 ++ l) (sym steps.1.0) ∙ before.4,
      (
        before.5.0 ++ lines.0,
        AreShowLines-join c.args.profile.now before.3 piece before.5.0 lines.0 before.5.1 lines.1,
        before.5.2 ▹ lines.2,
      ),
    )

-- the lines so far are those of the first entries
pub returns-then-failed-clause-first : goal.returns-then-failed-clause-first
returns-then-failed-clause-first g c =
    let before = c.loop-piece.invariant in
    (before.5.0, AreShowLines-first c.args.profile.now before.3 _ c.args.entries.now before.5.0 before.4 before.5.1, before.5.2)

pub returns-clause-first : goal.returns-clause-first
returns-clause-first g c =
    let before = c.loop-piece.invariant in
    (before.5.0, AreShowLines-first c.args.profile.now before.3 _ c.args.entries.now before.5.0 before.4 before.5.1, before.5.2)
