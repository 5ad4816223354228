use Rattle.std.proofs.Common.{◌++◌, ◌≤◌, ◌-◌, ◌∙◌, ℕ, List, [], refl, ap, arith}
use Rattle.a429_link.specs.declared.state.SourceState.TheVariants.{Sending}
use Rattle.a429_word.proofs.SheetFacts.{◌▹◌, says_nothing}
use Rattle.a429_cert.specs.declared.line.CertLine.TheVariants.{Moved}
use Rattle.a429_explain.specs.Next.{lost}
use Rattle.a429_explain.specs.Note.{line_after, lost_head, rest_lines}
use Rattle.a429_explain.proofs.LossesFacts.{line_of_parts, rest_first, rest_last}
use Rattle.a429_explain.proofs.note.put_losses.Goals as goal

pub loop-sent-init : goal.loop-sent-init
loop-sent-init g c = record { said = []; says = says_nothing _ c.args.sheet.now; to_go = refl }

pub loop-sent-preserved : goal.loop-sent-preserved
loop-sent-preserved g c =
    let k = c.loop-sent.sent in
    let line = ap (λ (t : List ℕ). lost_head k ++ t) (c.as_slice.ensures ∙ c.ways_text-ways.ensures) ∙ line_of_parts c.args.at k in
    record {
      said = c.loop-sent.invariant.said ++ line_after (Moved (lost c.args.at (Sending k)));
      says = c.loop-sent.invariant.says ▹ (rw line at c.put_lost.ensures);
      to_go =
          rest_first c.loop-sent.invariant.said (rest_lines c.args.at c.args.first (c.args.end - c.args.first)) c.args.at k c.args.end
          c.loop-sent-test.true c.loop-sent.invariant.to_go;
    }

pub returns : goal.returns
returns g c =
    let past : c.args.end ≤ c.loop-sent.sent = omega (arith, c.loop-sent-test.false) in
    let all =
    rest_last c.loop-sent.invariant.said (rest_lines c.args.at c.args.first (c.args.end - c.args.first)) c.args.at c.loop-sent.sent
    c.args.end past c.loop-sent.invariant.to_go in
    rw all at (c.loop-sent.invariant.says ▹ (rw c.lost.ensures at c.put_move.ensures))
