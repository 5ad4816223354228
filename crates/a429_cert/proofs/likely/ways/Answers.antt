use Rattle.std.proofs.Common.{◌≡◌, ℕ, subst, arith}
use Rattle.a429_cert.specs.Likely.{values_below, ways_fields}
use Rattle.a429_cert.proofs.likely.ways.Goals as goal

pub returns : goal.returns
returns c =
    let end : c.words.k ≡ 255 = omega (arith, c.words-test.false, c.words.auto.k-end) in
    subst (λ (n : ℕ). c.words.texts.items ≡ values_below (ways_fields c.args.to_sink) n) end c.words.invariant
