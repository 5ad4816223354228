use Rattle.a429_ldu.specs.Form.{form_of}
use Rattle.a429_sink.proofs.PieceFacts.{piece_more, settled_more}
use Rattle.a429_sink.proofs.piece.PieceTrace.see.Goals as goal

pub returns-clause-piece : goal.returns-clause-piece
returns-clause-piece c = λ items is goes.
    rw (c.take.ensures, c.mark-mark.ensures, c.form_of-form.ensures)
    (piece_more c.args.profile.now items c.args.seen c.args.self.now c.see.new.self c.in-Ok.files.items is goes
    (c.in-Ok.ensures.goes_on items is.trace) c.in-Ok.ensures.later (c.in-Ok.ensures.files items is.trace))

pub returns-clause-settled : goal.returns-clause-settled
returns-clause-settled c = λ s h.
    let codes = c.args.profile.now.codes in
    rw (c.take.ensures, c.mark-mark.ensures, c.form_of-form.ensures)
    (settled_more codes c.args.seen
    (form_of codes c.args.seen.bus c.args.seen.word) c.args.self.now c.see.new.self s c.in-Ok.ensures.later h)
