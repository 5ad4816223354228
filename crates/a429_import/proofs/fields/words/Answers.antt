use Rattle.std.proofs.Common.{arith}
use Rattle.a429_import.proofs.FieldsFacts.{words-few}
use Rattle.a429_import.proofs.fields.words.Goals as goal

pub returns-clause-few : goal.returns-clause-few
returns-clause-few c = omega (arith, words-few c.args.text.now, c.type_inv.text)
