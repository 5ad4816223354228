use Rattle.std.proofs.Common.{ap, ◌∙◌, ◌++◌, ◌∷◌, ◌/◌, ◌%◌, []}
use Rattle.std.proofs.lemmas.Nat.{and_mask}
use Rattle.a429_ldu.specs.Semis.{semis_of_bytes}
use Rattle.a429_ldu.proofs.CarriedFacts.{two_pushed, three_pushed, five_first, five_joined, above_waiting}
use Rattle.a429_ldu.proofs.carried.push_full.Goals as goal

pub returns-in-None-clause-bytes : goal.returns-in-None-clause-bytes
returns-in-None-clause-bytes c =
    let n = c.args.number in
    ap (λ bs. semis_of_bytes bs ++ n / 65536 ∷ [])
    (two_pushed c.args.bytes.now.items _ _ _ _ c.push.ensures.items c.push-in-None.ensures.items)
    ∙ five_first c.args.bytes.now.items c.args.low n _ _ c.in-None.is c.requires.number (and_mask n 8) (and_mask (n / 256) 8)

pub returns-in-Some-clause-bytes : goal.returns-in-Some-clause-bytes
returns-in-Some-clause-bytes c =
    let n = c.args.number in
    let small = rw c.in-Some.is at c.requires.low in
    let joined = above_waiting n c.from.result c.in-Some.low c.requires.number c.from.ensures small in
    ap (λ bs. semis_of_bytes bs ++ [])
    (three_pushed c.args.bytes.now.items _ _ _ _ _ _ c.push-in-Some.ensures.items c.push-in-Some-2.ensures.items
    c.push-in-Some-3.ensures.items)
    ∙ five_joined c.args.bytes.now.items c.args.low c.in-Some.low n _ _ _ c.in-Some.is small c.requires.number
    (and_mask _ 8 ∙ ap (λ m. m % 256) joined) (and_mask _ 8 ∙ ap (λ m. m / 256 % 256) joined) (ap (λ m. m / 65536) joined)
