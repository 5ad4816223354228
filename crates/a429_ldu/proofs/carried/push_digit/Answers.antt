use Rattle.std.proofs.Common.{ap, ◌∙◌, ◌++◌, []}
use Rattle.a429_ldu.specs.Semis.{semis_of_bytes}
use Rattle.a429_ldu.proofs.CarriedFacts.{digit-high}
use Rattle.a429_ldu.proofs.carried.push_digit.Goals as goal

pub returns-in-Some-clause-bytes : goal.returns-in-Some-clause-bytes
returns-in-Some-clause-bytes c =
    ap (λ bs. semis_of_bytes bs ++ []) c.push.ensures.items
    ∙ digit-high c.args.bytes.now.items c.args.low c.in-Some.low c.args.digit c.in-Some.is
    (rw c.in-Some.is at c.requires.low) c.requires.digit
