use Rattle.std.proofs.Common.{◌∙◌, sym, ap}
use Rattle.a429_record.specs.Row.{rows_in}
use Rattle.a429_record.proofs.LinePlain.{blank_line, all_returns}
use Rattle.a429_record.proofs.line.row_in_line.Goals as goal

pub returns-then-is_blank-clause-ok : goal.returns-then-is_blank-clause-ok
returns-then-is_blank-clause-ok c =
    sym (ap rows_in
    (blank_line c.args.line.now (ap all_returns (sym c.without_mark-text.ensures) ∙ sym c.is_blank.ensures ∙ c.if-is_blank.true)))
