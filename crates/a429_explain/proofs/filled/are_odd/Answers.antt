use Rattle.std.proofs.Common.{◌≡◌, ℕ, ◌≤◌, Bool, true, false, not, ◌==◌, Option, Some, None, is_some, option_map, Vec, Global, List, [], ◌∷◌, length, refl, sym, ap, ◌∙◌, arith}
use Rattle.a429_explain.specs.Filled.{are_odd}
use Rattle.a429_explain.proofs.FilledFacts.{odd_none}
use Rattle.a429_explain.proofs.filled.are_odd.Goals as goal

nonempty : (ws : List ℕ) (t : Bool) → t ≡ false → t ≡ (length ws == 0) → 1 ≤ length ws
nonempty [] t e h = absurd (cc (sym e ∙ h))
nonempty (w ∷ ws) t e h = omega arith

some_items : (o : Option (Vec ℕ Global)) → is_some o ≡ is_some (option_map (λ (v : Vec ℕ Global). v.items) o)
some_items None = refl
some_items (Some v) = refl

flip : (t b : Bool) → not t ≡ not b → t ≡ b
flip true true e = refl
flip false false e = refl
flip true false e = absurd (cc e)
flip false true e = absurd (cc e)

pub returns : goal.returns
returns c =
    let some = nonempty c.args.words.now c.is_empty.result c.if-is_empty.false c.is_empty.ensures in
    let carried = sym c.is_none.ensures ∙ some_items c.in_ok-bytes.bytes ∙ ap is_some c.in_ok-bytes.ensures.computed in
    flip c.is_none.result (are_odd c.args.profile.now.codes c.args.words.now)
    (carried ∙ odd_none c.args.profile.now c.codes-codes.ensures.sound c.args.words.now some c.requires)
