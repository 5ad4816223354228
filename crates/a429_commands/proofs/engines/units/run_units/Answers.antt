use Rattle.std.proofs.Common.{◌≡◌, ◌||◌, true, sym, subst}
use Rattle.std.proofs.lemmas.Result.{err_from_is_err_and}
use Rattle.a429_word.specs.Tally.{has_failed}
use Rattle.a429_word.proofs.Outcomes.{if_err_map}
use Rattle.a429_commands.specs.Units.{LeavesUnits}
use Rattle.a429_commands.specs.Verdict.{input}
use Rattle.a429_commands.proofs.UnitsFacts.{ends_judged, ends_until, leaves_units, untouched}
use Rattle.a429_commands.proofs.engines.units.run_units.Goals as goal

pub returns-clause-ends : goal.returns-clause-ends
returns-clause-ends g c =
    let i = input c.args.profile.now g.C.Read.remaining c.args.certificate.now c.args.rec.now in
    let new = c.judge.new in
    let said = c.in_ok-judged.ensures in
    let last = c.end_rows-status in
    ends_judged g.W.Write.contents i c.args.rows.now new.listener last.new.rows c.in_ok-judged.judged new.rec.failed
    (has_failed new.cert) last.result c.requires said.judged said.heard said.works said.tried
    last.ensures.ended last.ensures.works last.ensures.err last.ensures.part

pub returns-clause-waits : goal.returns-clause-waits
returns-clause-waits g c =
    let i = input c.args.profile.now g.C.Read.remaining c.args.certificate.now c.args.rec.now in
    if_err_map c.end_rows-status.result c.end_rows-status.ensures.err
    (λ e h. subst (LeavesUnits g.W.Write.contents c.args.rows.now c.end_rows-status.new.rows i) (sym h.0) tt)

pub returns-in_err-judged-clause-waits : goal.returns-in_err-judged-clause-waits
returns-in_err-judged-clause-waits g c =
    let i = input c.args.profile.now g.C.Read.remaining c.args.certificate.now c.args.rec.now in
    let p = err_from_is_err_and c.from_residual.result c.from_residual.ensures.1 in
    let new = c.judge.new.listener in
    let before = c.in_err-judged.ensures in
    rw (p.1, p.2)
    (leaves_units g.W.Write.contents i c.args.rows.now new _ c.requires
    (untouched g.W.Write.contents c.args.profile.now c.args.rows.now new _ before.untried) before.until)

pub returns-in_err-judged-clause-ends : goal.returns-in_err-judged-clause-ends
returns-in_err-judged-clause-ends g c =
    let i = input c.args.profile.now g.C.Read.remaining c.args.certificate.now c.args.rec.now in
    let new = c.judge.new in
    let Failed = (has_failed new.listener.out || (new.rec.failed || has_failed new.cert)) ≡ true in
    let p = err_from_is_err_and c.from_residual.result c.from_residual.ensures.1 in
    let before = c.in_err-judged.ensures in
    let left =
    leaves_units g.W.Write.contents i c.args.rows.now new.listener _ c.requires
    (untouched g.W.Write.contents c.args.profile.now c.args.rows.now new.listener _ before.untried) before.until in
    rw (p.1, p.2) (ends_until g.W.Write.contents i Failed c.args.rows.now new.listener _ c.requires before.untried before.err left)
