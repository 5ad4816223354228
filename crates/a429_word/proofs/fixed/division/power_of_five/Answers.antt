use Rattle.std.proofs.Common.{◌<◌, ◌^◌, ap, ◌∙◌, arith}
use Rattle.a429_word.proofs.Tables.{tabulated-at}
use Rattle.a429_word.proofs.fixed.division.power_of_five.Goals as goal

pub returns : goal.returns
returns c =
    let inside : c.from.result < 25 = omega arith in
    tabulated-at (λ k. 5 ^ k) 25 c.from.result inside ∙ ap (λ k. 5 ^ k) c.from.ensures
