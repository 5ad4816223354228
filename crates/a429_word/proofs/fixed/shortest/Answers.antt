use Rattle.std.proofs.Common.{◌/◌, ◌^◌, arith, inl, inr}
use Rattle.a429_word.proofs.FixedZeros.{tens_dropped, odd_ends}
use Rattle.a429_word.proofs.fixed.shortest.Goals as goal

pub returns-in-Some-clause-value : goal.returns-in-Some-clause-value
returns-in-Some-clause-value c =
    tens_dropped c.args.number c.in-Some.rest c.twos_of-twos.result c.args.decimals c.twos_of-twos.ensures.within
    c.twos_of-twos.ensures.factors c.in-Some.ensures

pub returns-in-Some-clause-ends : goal.returns-in-Some-clause-ends
returns-in-Some-clause-ends c =
    let twos = c.twos_of-twos.result in
    elim c.twos_of-twos.ensures.all [
      | inl e ↦ inl (omega arith)
      | inr odd ↦ inr (odd_ends (c.args.number / 2 ^ twos) (5 ^ twos) c.in-Some.rest odd c.in-Some.ensures)
    ]
