use Rattle.std.proofs.Common.{◌++◌, ◌∷◌, [], ◌∙◌, false, inl, refl, sym}
use Rattle.a429_sink.specs.Splitting.{IsSplit, Splits}
use Rattle.a429_sink.proofs.SplittingFacts.{goes_on, on_ok_both, split_more, split_put}
use Rattle.a429_sink.proofs.splitting.Splitting.take.Goals as goal
use Rattle.a429_sink.proofs.splitting.Splitting.take.Goals.{in-Some+in-Ok-begin_anew, in_default}

pub returns-clause-ok : goal.returns-clause-ok
returns-clause-ok g c = on_ok_both c.put_until.result (λ puts same first es splits.
    let p = c.args.profile.now in
    let e = c.args.entry.now in
    let old = c.args.self.now in
    let is : IsSplit p false first (g.P.Pieces.known c.args.pieces.now) (es ++ e ∷ []) c.see.new.self =
    split_more p first (g.P.Pieces.known c.args.pieces.now) es e old (record old { held = c.push.new.self }) c.see.new.self splits refl refl
    refl c.in-Ok.ensures.items c.in-Ok-see.ensures.sees c.in-Ok-see.ensures.same refl in
    let mid : Splits p false first (g.P.Pieces.known c.match-end.pieces) (es ++ e ∷ []) c.match-end.self =
    elim c.match-end.branch [
      | in-Some+in-Ok-begin_anew w ↦
          let h = w.in-Ok-begin_anew.ensures.ok false first (es ++ e ∷ []) is (inl (sym c.end.ensures ∙ w.in-Some.is)) in
          rw (w.self-is, w.pieces-is) (record { is = h.is; goes = goes_on w.begin_anew.new.self.piece h.goes })
      | in_default w ↦ rw (w.self-is, w.pieces-is) (record { is = is; goes = sym c.end.ensures ∙ w.in_default.is })
    ] in
    split_put p false first (g.P.Pieces.known c.match-end.pieces) (g.P.Pieces.known c.put_until.new.pieces)
    (es ++ e ∷ []) c.match-end.self c.put_until.new.self mid same (rw c.settled-upto.ensures at puts))
    c.put_until.ensures.ok c.put_until.ensures.same
