use Rattle.std.proofs.Common.{◌∙◌, ap, length, refl, sym}
use Rattle.a429_sink.proofs.SplittingFacts.{put_sizes, until_more}
use Rattle.a429_sink.proofs.splitting.Splitting.put_until.Goals as goal

pub returns-clause-ok : goal.returns-clause-ok
returns-clause-ok g c =
    until_more c.args.upto (g.P.Pieces.known c.args.pieces.now)
    (g.P.Pieces.known c.put.new.self) c.args.self.now _ c.min-entries.result c.saturating_sub-files.result c.in-Ok.files.items refl
    (λ es sure holds up. put_sizes c.args.upto c.args.self.now es sure c.min-entries.result c.saturating_sub-files.result holds up
    (rw (c.min-entries.ensures, c.saturating_sub-entries.ensures, c.len.ensures, sym c.deref.ensures.len ∙ ap length c.deref.ensures.value)
    refl) c.saturating_sub-files.ensures)
    c.in-Ok.ensures.taken (rw c.deref.ensures.value at c.in-Ok-put.ensures.ok)
    (rw c.as_slice.ensures.value at c.in-Ok-add_files.ensures) c.drop_front.ensures c.in-Ok.ensures.left
