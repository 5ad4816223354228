-- the data bits, as the mask reads them, less 2 ^ s where the sign bit is 1
use Rattle.std.proofs.Common.{◌-◌, ◌^◌}
use Rattle.a429_word.specs.Word.{bit, number_at}
use Rattle.a429_word.proofs.BnrRaw.{data-is, bounds, negative, positive, bit-clear}
use Rattle.a429_word.proofs.word.Word.bnr_raw.Goals as goal

pub overflow_sub-result : goal.overflow_sub-result
overflow_sub-result c =
    let w = c.args.self in let s = c.args.s in
    let b = bounds w s c.requires.least c.requires.most in
    let low = data-is c.to_u32.result w s _ c.requires.least c.requires.most c.to_u32.ensures c.cast_signed-data.ensures in
    (negative (number_at w (29 - s) s) (2 ^ s) (bit w 29) _ c.cast_signed-data.result b.0 b.1 (c.bit.ensures.0 c.if-bit.true) b.2 low).0

pub returns-then-bit : goal.returns-then-bit
returns-then-bit c =
    let w = c.args.self in let s = c.args.s in
    let b = bounds w s c.requires.least c.requires.most in
    let low = data-is c.to_u32.result w s _ c.requires.least c.requires.most c.to_u32.ensures c.cast_signed-data.ensures in
    (negative (number_at w (29 - s) s) (2 ^ s) (bit w 29) _ c.cast_signed-data.result b.0 b.1 (c.bit.ensures.0 c.if-bit.true) b.2 low).1

pub returns-else-bit : goal.returns-else-bit
returns-else-bit c =
    let w = c.args.self in let s = c.args.s in
    let b = bounds w s c.requires.least c.requires.most in
    let low = data-is c.to_u32.result w s _ c.requires.least c.requires.most c.to_u32.ensures c.cast_signed-data.ensures in
    positive (number_at w (29 - s) s) (2 ^ s) (bit w 29) c.cast_signed-data.result b.0 b.1
    (bit-clear w 29 (λ h. cc (c.bit.ensures.1 h))) low
