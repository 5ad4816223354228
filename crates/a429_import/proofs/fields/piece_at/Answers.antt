use Rattle.a429_import.proofs.CutFacts.{piece_between, piece_last, piece_none}
use Rattle.a429_import.proofs.fields.piece_at.Goals as goal

pub returns-in_err-begin : goal.returns-in_err-begin
returns-in_err-begin c =
    rw c.from_residual.ensures (piece_none c.args.text.now c.args.start c.args.starts.now c.args.place c.in_err-begin.ensures)

pub returns-in-Some : goal.returns-in-Some
returns-in-Some c =
    rw c.between.ensures
    (piece_between c.args.text.now c.args.start c.args.starts.now c.args.place c.in_ok-begin.begin c.in-Some.next c.in_ok-begin.ensures
    c.in-Some.ensures)

pub returns-in-None : goal.returns-in-None
returns-in-None c =
    rw c.rest_from.ensures
    (piece_last c.args.text.now c.args.start c.args.starts.now c.args.place c.in_ok-begin.begin c.in_ok-begin.ensures c.in-None.ensures)
