use Rattle.std.proofs.Common.{◌∙◌, ap, sym, subst, arith}
use Rattle.a429_cert.specs.Field.{field}
use Rattle.a429_cert.specs.Likely.{sending_field}
use Rattle.a429_cert.specs.States.{source_text, IsSource}
use Rattle.a429_cert.proofs.LikelyFacts.{get-below}
use Rattle.a429_cert.proofs.likely.WordLines.source.Goals as goal

pub returns-in-Sending : goal.returns-in-Sending
returns-in-Sending c =
    let few = c.if-sent-le254.true in
    let text = c.as_slice-in-Sending.ensures ∙ (rw c.args.self.now.sources_all at c.index.ensures)
    ∙ get-below sending_field 255 c.in-Sending.sent c.index.result.now (omega (arith, few)) in
    (text ∙ ap (λ s. field (source_text s)) (sym c.in-Sending.is), subst IsSource (sym c.in-Sending.is) few)
