use Rattle.std.proofs.Common.{◌<◌, ◌∙◌, sym, arith}
use Rattle.std.proofs.lemmas.Grind.{same_number_lists}
use Rattle.a429_view.proofs.WordTexts.{length-bits_text, get_or-bits_text}
use Rattle.a429_view.proofs.word.bits.Goals as goal

pub returns : goal.returns
returns c =
    let len = c.loop-i.invariant.len in
    same_number_lists _ _ (len ∙ sym (length-bits_text c.args.word 32))
    (λ k inside. let below : k < 32 = omega arith in
    c.loop-i.invariant.digits k (omega arith) ∙ sym (get_or-bits_text c.args.word 32 k below))
