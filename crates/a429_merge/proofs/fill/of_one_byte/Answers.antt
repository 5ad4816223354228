use Rattle.std.proofs.Common.{◌≡◌, ◌%◌, ◌++◌, ◌∷◌, [], ℕ, List, Option, IfNone, Vec, Global, ap, ◌∙◌, subst, arith, below_more}
use Rattle.a429_merge.specs.Fill.{IsFilled, CanBeFilled, data_word}
use Rattle.std.proofs.lemmas.Option.{IfSome_then}
use Rattle.a429_merge.proofs.FillFacts.{without_more}
use Rattle.a429_merge.proofs.HopelessFacts.{is_none}
use Rattle.a429_merge.proofs.fill.of_one_byte.Goals as goal
use Rattle.a429_merge.proofs.fill.of_one_byte.Goals.{After-filled_in_front}

-- the recorded words, and a last one of one semi-octet
words : (a : After-filled_in_front)
    → a.deref.result.now ≡ a.args.recorded.now ++ data_word a.args.profile.now.codes (a.loop-last.last ∷ []) ∷ []
words a =
    let digit : a.loop-last.last % 16 ≡ a.loop-last.last = omega (arith, a.loop-last-test.true) in
    a.deref.ensures.value
    ∙ a.in_ok-push.ensures.items
    ∙ ap (λ (ws : List ℕ). ws ++ a.numbered_word.result ∷ []) a.in_ok-words.ensures.items
    ∙ ap (λ (w : ℕ). a.args.recorded.now ++ w ∷ [])
    (a.numbered_word.ensures ∙ ap (λ (n : ℕ). data_word a.args.profile.now.codes (n ∷ [])) digit)

pub returns-then-is_some-clause-some : goal.returns-then-is_some-clause-some
returns-then-is_some-clause-some c =
    let p = c.args.profile.now in
    let count = c.args.wanted.count in
    let wanted = c.args.wanted.check in
    let recorded = c.args.recorded.now in
    let a = (goal.at.returns-then-is_some-clause-some c).After-filled_in_front in
    IfSome_then c.in_ok-found.found c.in_ok-found.ensures.some
    (λ v f. without_more p count wanted recorded (data_word p.codes (c.loop-last.last ∷ []) ∷ []) v.items
    (subst (λ (ws : List ℕ). IsFilled p count wanted ws v.items) (words a) f))

pub loop-last-preserved : goal.loop-last-preserved
loop-last-preserved c =
    let p = c.args.profile.now in
    let wanted = c.args.wanted.check in
    let a = (goal.at.loop-last-preserved c).After-filled_in_front in
    let none = is_none c.in_ok-found.found c.if-is_some.ensures in
    let left : ¬ CanBeFilled p c.args.wanted.count wanted c.deref.result.now =
    subst (λ (o : Option (Vec ℕ Global)). IfNone o (¬ CanBeFilled p c.args.wanted.count wanted c.deref.result.now)) none
    c.in_ok-found.ensures.none in
    let counted : ¬ CanBeFilled p 2 wanted c.deref.result.now =
    subst (λ (n : ℕ). ¬ CanBeFilled p n wanted c.deref.result.now) c.requires.two left in
    below_more _ _ c.loop-last.invariant (subst (λ (ws : List ℕ). ¬ CanBeFilled p 2 wanted ws) (words a) counted)
