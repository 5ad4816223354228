use Rattle.std.proofs.Common.{◌≡◌, ◌+ℤ◌, pos, ◌*◌, ◌^◌, ◌<ℤ◌, arith}
use Rattle.std.proofs.lemmas.Int.{ints}
use Rattle.std.proofs.lemmas.Nat.{pow_pos}
use Rattle.a429_word.proofs.BnrEncoded.{pow_at_most, code-negative, code-positive}
use Rattle.a429_word.proofs.bnr.twos_complement.Goals as goal

pub overflow_add-raw : goal.overflow_add-raw
overflow_add-raw c = omega (arith, ints, pow_at_most c.args.s c.requires.most)

pub returns-then-raw-lt0-clause-value : goal.returns-then-raw-lt0-clause-value
returns-then-raw-lt0-clause-value c =
    let most = pow_at_most c.args.s c.requires.most in
    let below : c.args.raw <ℤ pos 0 = omega (arith, ints) in
    let is : pos c.cast_unsigned.result ≡ c.args.raw +ℤ pos (2 * 2 ^ c.args.s) = omega (arith, ints) in
    (code-negative (2 ^ c.args.s) c.cast_unsigned.result c.args.raw (pow_pos c.args.s) below c.requires.low is).value

pub returns-else-raw-lt0-clause-value : goal.returns-else-raw-lt0-clause-value
returns-else-raw-lt0-clause-value c =
    let most = pow_at_most c.args.s c.requires.most in
    let is : c.args.raw ≡ pos c.cast_unsigned-else-raw-lt0.result = omega (arith, ints) in
    (code-positive (2 ^ c.args.s) c.cast_unsigned-else-raw-lt0.result c.args.raw is c.requires.high).value
