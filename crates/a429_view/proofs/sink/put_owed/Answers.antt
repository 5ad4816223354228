use Rattle.std.proofs.Common.{◌++◌, List, ℕ, codes, append_assoc, ap, sym, ◌∙◌, subst}
use Rattle.std.specs.Fmt.{decimal}
use Rattle.a429_word.specs.Sheet.{Says}
use Rattle.a429_word.proofs.SheetFacts.{◌▹◌}
use Rattle.a429_view.proofs.sink.put_owed.Goals as goal

pub returns-in-Ack : goal.returns-in-Ack
returns-in-Ack g c =
    let file = decimal c.in-Ack.file in
    let ldu = decimal c.in-Ack.ldu in
    let unit = file ++ codes " " ++ ldu in
    let same = ap (λ (t : List ℕ). t ++ codes ", nak") (sym (append_assoc file (codes " ") ldu))
    ∙ sym (append_assoc unit (codes ", ") (codes "nak")) in
    rw c.in-Ack.is (subst (λ (t : List ℕ). Says g.W.Write.contents c.args.sheet.now c.put-in-Ack.new.self (codes "ack " ++ t)) same
    (c.put_named-in-Ack.ensures ▹ c.put_named-in-Ack-2.ensures ▹ c.put-in-Ack.ensures))
