use Rattle.std.proofs.Common.{◌∙◌, ◌+◌, ◌-◌, ◌≡◌, ◌≤◌, ◌++◌, sym, ap, arith, length, take}
use Rattle.std.proofs.KnownBytes.{append_known-grown, Keeps-refl}
use borrow.Rule.Slice.PartMut.{post_of}
use Rattle.a429_word.specs.Page.{paged}
use Rattle.a429_word.specs.Room.{room_of}
use Rattle.a429_word.proofs.PageFacts.{take-refilled}
use Rattle.a429_word.proofs.page.Page.put.Goals as goal

pub returns-in-Some-clause-ok : goal.returns-in-Some-clause-ok
returns-in-Some-clause-ok g c =
    let at = c.self.inside.filled in
    let all = c.deref_mut.result.now in
    let copied = c.copy_from_slice.ensures.after in
    let n = length c.args.bytes.now in
    let whole : all ≡ room_of c.self.inside.room = c.deref_mut.ensures.value ∙ sym (ap room_of c.in-Some.is) in
    let filled : at ≤ length (room_of c.self.inside.room) = c.self.invariant in
    let inside : at ≤ length all = omega (arith, ap length whole, filled) in
    let before = ap (take at) whole ∙ c.self.view_is in
    let room : at + n ≤ c.in-Some.room.len =
    omega (arith, c.if-bytes-len.true, c.len.ensures, c.in-Some.room.ok.0, ap length c.deref_mut.ensures.value, inside) in
    let text =
    take-refilled at n c.in-Some.room.len all c.copy_from_slice.new.self (post_of at (at + n - at) all) _ room inside (ap length copied)
    ∙ ap (λ t. take at all ++ t) copied ∙ ap (λ t. t ++ c.args.bytes.now) before in
    append_known-grown (paged g.W.Write.contents c.args.out.now c.args.self.now) _ _ _ _ (Keeps-refl _) text
