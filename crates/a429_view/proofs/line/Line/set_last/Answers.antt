use Rattle.std.proofs.Common.{◌≡◌, ◌-◌, ◌++◌, ◌∷◌, [], ◌∙◌, take, length, ap, sym, arith}
use Rattle.std.proofs.lemmas.List.{length-take-le, take-take}
use Rattle.a429_view.proofs.line.Line.set_last.Goals as goal

pub returns : goal.returns
returns c =
    let old = c.args.self.now in
    let len = c.self.inside.len in
    let bytes = c.self.inside.bytes in
    let count : len - 1 ≡ length old - 1 =
    omega (arith, ap length c.self.view_is, c.self.told, length-take-le len bytes (omega (arith, c.self.told))) in
    let front = sym (take-take (len - 1) len bytes (omega arith)) ∙ ap (take (len - 1)) c.self.view_is ∙ ap (λ k. take k old) count in
    c.put.ensures.added ∙ ap (λ t. t ++ c.args.byte ∷ []) front
