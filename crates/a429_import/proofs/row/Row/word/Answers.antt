use Rattle.std.proofs.Common.{◌≡◌, ◌∙◌, min, length, ap, sym, arith}
use Rattle.a429_import.specs.Fields.{fields_left}
use Rattle.a429_import.specs.Row.{word_after}
use Rattle.a429_import.proofs.RowFacts.{part_values-end}
use Rattle.a429_import.proofs.row.Row.word.Goals as goal

pub returns : goal.returns
returns c =
    let parts = c.args.self.now.map.now.parts in
    let places = c.args.self.now.columns.now.parts in
    let end : c.loop-k.k ≡ min (length c.as_slice-parts.result.now) (length c.as_slice-places.result.now) =
    omega (arith, c.min-k-end.ensures) in
    let last = rw (c.as_slice-parts.ensures.parts, c.as_slice-places.ensures) at end in
    sym (c.loop-k.invariant
    ∙ ap (word_after c.loop-k.k c.loop-k.word) (part_values-end parts places (fields_left c.args.self.now.fields) c.loop-k.k last))
