use Rattle.std.proofs.Common.{◌∙◌, map, ap, sym, arith}
use Rattle.std.proofs.lemmas.List.{length-map}
use Rattle.std.proofs.lemmas.Bool.{not-true}
use Rattle.a429_import.specs.Fields.{trimmed}
use Rattle.a429_import.specs.Piece.{pieces}
use Rattle.a429_import.proofs.CutFacts.{from_starts}
use Rattle.a429_import.proofs.FieldsFacts.{cut_is, pieces-few}
use Rattle.a429_import.proofs.fields.cut.Goals as goal

pub returns-clause-fields : goal.returns-clause-fields
returns-clause-fields c =
    rw c.requires.starts
    (ap (map trimmed) (from_starts c.args.at c.args.text.now
    ∙ sym (cut_is c.args.at c.args.quotes c.args.text.now c.requires.some (not-true _ c.requires.plain))))

pub returns-clause-few : goal.returns-clause-few
returns-clause-few c =
    rw (c.requires.starts, from_starts c.args.at c.args.text.now)
    (omega (arith, length-map (pieces c.args.at c.args.text.now) trimmed, pieces-few c.args.at c.args.text.now, c.type_inv.text))
