use Rattle.std.proofs.Common.{◌≡◌, Some, rules}
use Rattle.a429_cert.specs.Lines.{line_bytes}
use Rattle.a429_cert.proofs.FaultFacts.{first_err}
use Rattle.a429_cert.proofs.explained.first_of.Goals as goal

pub returns-in-Ok-clause-err : goal.returns-in-Ok-clause-err
returns-in-Ok-clause-err c =
    let ended : line_bytes c.in-Some-Ended.field-0 ≡ Some c.in-Some-Ended.text.now = search rules in
    first_err line_bytes c.args.line c.in-Some-Ended.field-0 c.in-Some-Ended.text.now c.in-Ok.line c.file_of.result c.ok_or.result
    c.in-Some-Ended.is ended c.in-Ok.ensures.ok c.file_of.ensures c.ok_or.ensures.value
