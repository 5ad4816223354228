use Rattle.std.proofs.Common.{◌≡◌, ℕ, subst, arith}
use Rattle.a429_cert.specs.Likely.{pair_text, values_below}
use Rattle.a429_cert.proofs.likely.WordLines.new.Goals as goal

pub invariant_of-result-clause-pairs_all : goal.invariant_of-result-clause-pairs_all
invariant_of-result-clause-pairs_all c =
    let end : c.words.k ≡ 254 = omega (arith, c.words-test.false, c.words.auto.k-end) in
    subst (λ (n : ℕ). c.words.pairs.items ≡ values_below pair_text n) end c.words.invariant
