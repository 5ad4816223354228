use Rattle.std.proofs.Common.{List, ℕ, [], ◌≡◌, ◌++◌, OnOk, ap, subst}
use Rattle.std.specs.List.{flat_map}
use Rattle.std.proofs.lemmas.List.{append-nil}
use Rattle.a429_word.specs.Tally.{Puts, PutsFront}
use Rattle.a429_record.specs.declared.entry.Entry.{Entry}
use Rattle.a429_record.specs.Writing.{header_text, line_text, lined_form, written_form}
use Rattle.a429_record.proofs.writing.write_text.Goals as goal

no_lines : (es : List Entry) → lined_form es [] [] ≡ written_form es
no_lines es = ap (λ (t : List ℕ). header_text ++ t) (append-nil (flat_map line_text es))

pub returns-clause-ok : goal.returns-clause-ok
returns-clause-ok g c =
    subst (λ (form : List ℕ). OnOk c.write_lines.result (Puts g.W.Write.contents c.args.out.now c.write_lines.new.out form))
    (no_lines c.args.entries.now) c.write_lines.ensures.ok

pub returns-clause-prefix : goal.returns-clause-prefix
returns-clause-prefix g c =
    subst (λ (form : List ℕ). PutsFront g.W.Write.contents c.args.out.now c.write_lines.new.out form)
    (no_lines c.args.entries.now) c.write_lines.ensures.prefix
