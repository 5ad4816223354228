use Rattle.std.proofs.Common.{◌∙◌, ◌+◌, ◌-◌, ◌≡◌, ◌≤◌, ◌++◌, sym, ap, arith, length, take}
use Rattle.std.proofs.KnownBytes.{append_known-grown, Keeps-refl}
use borrow.Rule.Slice.PartMut.{post_of}
use Rattle.a429_word.specs.Page.{paged}
use Rattle.a429_word.specs.Room.{room_of}
use Rattle.a429_word.proofs.PageFacts.{take-begun}
use Rattle.a429_word.proofs.page.Page.put_first.Goals as goal

pub returns-in-Some-clause-ok : goal.returns-in-Some-clause-ok
returns-in-Some-clause-ok g c =
    let at = c.self.inside.filled in
    let all = c.deref_mut.result.now in
    let copied = c.copy_from_slice.ensures.after in
    let count = c.args.count in
    let whole : all ≡ room_of c.self.inside.room = c.deref_mut.ensures.value ∙ sym (ap room_of c.in-Some.is) in
    let filled : at ≤ length (room_of c.self.inside.room) = c.self.invariant in
    let inside : at ≤ length all = omega (arith, ap length whole, filled) in
    let before = ap (take at) whole ∙ c.self.view_is in
    let room : at + 32 ≤ c.in-Some.room.len =
    omega (arith, c.if-len-self-ge-FEW.true, c.len.ensures, c.in-Some.room.ok.0, ap length c.deref_mut.ensures.value, inside) in
    let text =
    take-begun at count 32 c.in-Some.room.len all c.copy_from_slice.new.self (post_of at (at + 32 - at) all) _ c.requires.count room inside
    (ap length copied ∙ c.requires.bytes)
    ∙ ap (λ t. take at all ++ take count t) copied ∙ ap (λ t. t ++ take count c.args.bytes.now) before in
    append_known-grown (paged g.W.Write.contents c.args.out.now c.args.self.now) _ _ _ _ (Keeps-refl _) text
