use Rattle.std.proofs.Common.{◌≤◌, ◌∙◌, ◌+◌, ◌-◌, ◌++◌, ap, arith, length, take, length-append}
use Rattle.std.proofs.lemmas.List.{length-take-le}
use borrow.Rule.Slice.PartMut.{post_of}
use Rattle.a429_view.proofs.LineFacts.{take-copied}
use Rattle.a429_view.proofs.line.Line.put_first.Goals as goal

pub returns : goal.returns
returns c =
    let at = c.self.inside.len in
    let all = c.self.inside.bytes in
    let bytes = c.args.bytes.now in
    let count = c.args.count in
    let copied = c.copy_from_slice.ensures.after in
    let inside : at ≤ length all = omega arith in
    let few : count ≤ length c.copy_from_slice.new.self = omega (arith, ap length copied, c.requires.count) in
    let text = take-copied at count all c.copy_from_slice.new.self (post_of at (at + length bytes - at) all) inside few
    ∙ ap (λ t. take at all ++ take count t) copied ∙ ap (λ t. t ++ take count bytes) c.self.view_is in
    record {
      added = text;
      most = omega (arith, ap length text, length-append c.args.self.now (take count bytes), length-take-le count bytes c.requires.count);
    }
