use Rattle.std.proofs.Common.{◌≡◌, List, ℕ, ◌++◌, ◌∙◌, sym, ap, subst}
use Rattle.std.specs.List.{flat_map}
use Rattle.a429_cert.specs.BlockText.{word_lines}
use Rattle.a429_explain.specs.declared.note.Note.{Note}
use Rattle.a429_explain.specs.Next.{carried}
use Rattle.a429_explain.specs.Note.{last_line, note_text, EndsWith}
use Rattle.a429_explain.proofs.NextFacts.{word_likely, word_last}
use Rattle.a429_explain.proofs.lines.Lines.put_word_lines.Goals as goal
use Rattle.a429_explain.proofs.lines.Lines.put_word_lines.Goals.{After-is_same}

-- the last line of the note
last_is : (a : After-is_same) → a.self.inside.last ≡ last_line a.in-Moves.first a.in-Moves.more
last_is a = subst (λ (n : Note). EndsWith n a.self.inside.last) a.in-Moves.is a.self.invariant

pub invariant_of-self : goal.invariant_of-self
invariant_of-self c =
    let here : c.self.inside.last ≡ carried c.args.place = c.is_same.ensures c.if-is_same.true ∙ c.carried.ensures in
    c.carried-self-inside.ensures ∙ word_last c.in-Moves.first c.self.inside.last c.in-Moves.more c.args.place c.requires
    (last_is (goal.at.invariant_of-self c).After-is_same) here

pub returns-then-is_same : goal.returns-then-is_same
returns-then-is_same c =
    let front = flat_map note_text c.self.inside.notes.items in
    let here : c.self.inside.last ≡ carried c.args.place = c.is_same.ensures c.if-is_same.true ∙ c.carried.ensures in
    let now = ap (λ (n : Note). front ++ note_text n) (sym c.in-Moves.is) ∙ c.self.view_is in
    word_likely front c.in-Moves.first c.self.inside.last c.in-Moves.more c.args.place c.requires
    (last_is (goal.at.returns-then-is_same c).After-is_same) here
    ∙ ap (λ (t : List ℕ). t ++ word_lines c.args.place) now
