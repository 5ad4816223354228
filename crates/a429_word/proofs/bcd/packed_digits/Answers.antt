use Rattle.std.proofs.Common.{◌≡◌, ◌%◌, ap, arith}
use Rattle.a429_word.proofs.BcdPacked.{IsPacked, packed-none, packed-more, digit-room, next-digit}
use Rattle.a429_word.proofs.bcd.packed_digits.Goals as goal

pub overflow_add-packed : goal.overflow_add-packed
overflow_add-packed c =
    let l = c.loop-place in
    let room = digit-room l.place l.packed l.rest (omega arith) l.invariant.1.within in omega (arith, room.0)

pub loop-place-init : goal.loop-place-init
loop-place-init c = (omega arith, packed-none c.args.value)

pub loop-place-preserved : goal.loop-place-preserved
loop-place-preserved c =
    let l = c.loop-place in
    let room = digit-room l.place l.packed l.rest (omega arith) l.invariant.1.within in (
      next-digit l.rest c.args.value l.place l.invariant.0,
      rw room.1 (packed-more l.packed l.place c.args.value (l.rest % 10) l.invariant.1 (ap (λ n. n % 10) l.invariant.0)),
    )

pub returns : goal.returns
returns c =
    let l = c.loop-place in
    let all : l.place ≡ c.args.count = omega arith in
    let packed : IsPacked l.packed c.args.count c.args.value = rw all at l.invariant.1 in
    record { within = packed.within; digits = packed.digits }
