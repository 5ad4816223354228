use Rattle.std.proofs.Common.{◌≡◌, List, ℕ, ◌++◌, ◌∙◌, sym, ap, subst}
use Rattle.std.specs.List.{flat_map}
use Rattle.a429_cert.specs.declared.line.CertLine.TheVariants.{Moved}
use Rattle.a429_explain.specs.declared.note.Note.{Note}
use Rattle.a429_explain.specs.Note.{line_after, last_line, note_text, EndsWith}
use Rattle.a429_explain.proofs.NoteFacts.{last_more, moves_more}
use Rattle.a429_explain.proofs.lines.Lines.put_move.Goals as goal
use Rattle.a429_explain.proofs.lines.Lines.put_move.Goals.{After-is_same}

-- the last line of the note
last_is : (a : After-is_same) → a.self.inside.last ≡ last_line a.in-Moves.first a.in-Moves.more
last_is a = subst (λ (n : Note). EndsWith n a.self.inside.last) a.in-Moves.is a.self.invariant

pub invariant_of-self : goal.invariant_of-self
invariant_of-self c =
    last_more c.in-Moves.first c.self.inside.last c.args.line c.in-Moves.more (last_is (goal.at.invariant_of-self c).After-is_same)
    (sym c.next_line.ensures ∙ c.is_same.ensures c.if-is_same.true)

pub returns-then-is_same-clause-ok : goal.returns-then-is_same-clause-ok
returns-then-is_same-clause-ok c =
    let front = flat_map note_text c.self.inside.notes.items in
    let now = ap (λ (n : Note). front ++ note_text n) (sym c.in-Moves.is) ∙ c.self.view_is in
    moves_more front c.in-Moves.first c.self.inside.last c.args.line c.in-Moves.more
    (last_is (goal.at.returns-then-is_same-clause-ok c).After-is_same) (sym c.next_line.ensures ∙ c.is_same.ensures c.if-is_same.true)
    ∙ ap (λ (t : List ℕ). t ++ line_after (Moved c.args.line)) now
