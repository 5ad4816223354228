use Rattle.std.proofs.Common.{◌++◌, ◌∙◌, ◌+◌, ap, codes, append_assoc, subst, sym, length, arith}
use Rattle.std.specs.Fmt.{decimal}
use Rattle.a429_view.specs.Line.{Adds}
use Rattle.a429_view.proofs.LineFacts.{◌▹◌, within}
use Rattle.a429_view.proofs.forms.add_unit.Goals as goal

pub returns : goal.returns
returns c =
    let name = c.args.name.now in
    let space = codes " " in
    let parts = append_assoc name (decimal c.args.file) (space ++ decimal c.args.ldu)
    ∙ ap (λ t. name ++ t) (sym (append_assoc (decimal c.args.file) space (decimal c.args.ldu))) in
    subst (Adds c.args.line.now c.add_named-2.new.line (length name + 7)) parts
    (within (length name + 7) (c.add_named.ensures ▹ c.add_named-2.ensures) (omega arith))
