use Rattle.std.proofs.Common.{◌++◌, sym, ap, subst, ◌∙◌}
use Rattle.a429_explain.specs.Scribe.{CanMake, CannotWrite, IsReady, IsAtRest, plain_steps, begin_steps, sent, link_after}
use Rattle.a429_explain.proofs.ScribeFacts.{asks_parts, asking_parts, not_made, closes_none, has_asked, on_ok}
use Rattle.a429_explain.proofs.scribe.Scribe.write_entry.Goals as goal

pub returns-in-Err-clause-lossless : goal.returns-in-Err-clause-lossless
returns-in-Err-clause-lossless c = λ plain run.
    let k =
    asks_parts c.args.role c.in-Request.count c.in-Request.start c.args.seen c.args.plan c.args.self.now.link c.in-Request.is plain run in
    let same = (c.close.ensures.idle k.rests).1 in
    (c.in-Err.ensures.lossless (subst (CanMake (begin_steps c.args.plan)) (sym same) k.can), tt)

pub returns-in-Ok-clause-lossless : goal.returns-in-Ok-clause-lossless
returns-in-Ok-clause-lossless c = λ plain run.
    let k =
    asks_parts c.args.role c.in-Request.count c.in-Request.start c.args.seen c.args.plan c.args.self.now.link c.in-Request.is plain run in
    let same = (c.close.ensures.idle k.rests).1 in
    let at = c.in-Ok.ensures.reached ∙ ap (link_after (begin_steps c.args.plan)) same in (
      c.send.ensures.lossless (subst (CanMake (sent c.args.seen)) (sym at) k.sends),
      on_ok c.send.result c.send.ensures.reached (λ e. e ∙ ap (link_after (sent c.args.seen)) at ∙ sym k.leads),
    )

pub returns-in_err-close-in-Request-clause-lossless : goal.returns-in_err-close-in-Request-clause-lossless
returns-in_err-close-in-Request-clause-lossless c = λ plain run.
    let k =
    asks_parts c.args.role c.in-Request.count c.in-Request.start c.args.seen c.args.plan c.args.self.now.link c.in-Request.is plain run in
    let done = (c.close.ensures.idle k.rests).0 in
    let failed = c.in_err-close-in-Request.was in
    absurd (cc (done, failed))

pub returns-in-Ok-clause-asked : goal.returns-in-Ok-clause-asked
returns-in-Ok-clause-asked c =
    let l = c.args.self.now.link in
    has_asked c.send.result c.args.role c.in-Request.count c.in-Request.start c.args.seen c.args.plan l c.close.new.self.link
    c.begin.new.self.link c.send.new.self.link c.in-Request.is
    (c.in_ok-close-in-Request.ensures.closed l (closes_none l)) c.in-Ok.ensures.reached c.send.ensures.reached

pub returns-in-Err-clause-refused : goal.returns-in-Err-clause-refused
returns-in-Err-clause-refused c = λ other.
    let l = c.args.self.now.link in
    let plan = c.args.plan in
    let seen = c.args.seen in
    subst (λ r. CannotWrite r seen plan l) (sym c.in-Request.is) (λ rests can.
    let same = (c.close.ensures.idle rests).1 in
    other (c.in-Err.ensures.lossless (subst (CanMake (begin_steps plan)) (sym same) (asking_parts plan seen l can).0)))

pub returns-in-Ok-clause-refused : goal.returns-in-Ok-clause-refused
returns-in-Ok-clause-refused c =
    let l = c.args.self.now.link in
    let plan = c.args.plan in
    let seen = c.args.seen in
    not_made c.send.result (IsReady c.args.role l) (CanMake (plain_steps c.args.role seen plan) l) (λ ready can.
    let rests : IsAtRest l = subst (λ r. IsReady r l) c.in-Request.is ready in
    let run : CanMake (begin_steps plan ++ sent seen) l = subst (λ r. CanMake (plain_steps r seen plan) l) c.in-Request.is can in
    let at = c.in-Ok.ensures.reached ∙ ap (link_after (begin_steps plan)) (c.close.ensures.idle rests).1 in
    c.send.ensures.lossless (subst (CanMake (sent seen)) (sym at) (asking_parts plan seen l run).1))

pub returns-in_err-close-in-Request-clause-refused : goal.returns-in_err-close-in-Request-clause-refused
returns-in_err-close-in-Request-clause-refused c =
    let l = c.args.self.now.link in
    not_made c.from_residual.result (IsReady c.args.role l) (CanMake (plain_steps c.args.role c.args.seen c.args.plan) l) (λ ready can.
    let rests : IsAtRest l = subst (λ r. IsReady r l) c.in-Request.is ready in
    let done = (c.close.ensures.idle rests).0 in
    let failed = c.in_err-close-in-Request.was in
    absurd (cc (done, failed)))
