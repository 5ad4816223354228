use Rattle.std.proofs.Common.{◌≡◌, ◌<◌, ◌++◌, ◌∷◌, [], ℕ, Option, IfNone, length, Vec, Global, subst, inl}
use Rattle.a429_merge.specs.Fill.{Fits, CanBeFilled, HasOneByte, data_word}
use Rattle.a429_merge.proofs.FreeBitsFacts.{ok_none_from}
use Rattle.a429_merge.proofs.FillFacts.{if_none_from, ok_none, no_free_word, no_one_byte}
use Rattle.a429_merge.proofs.HopelessFacts.{is_none}
use Rattle.a429_merge.proofs.fill.completed.Goals as goal

pub returns-then-is_some-clause-whole : goal.returns-then-is_some-clause-whole
returns-then-is_some-clause-whole c =
    if_none_from _ _ c.in_ok-found.found (λ none long fits. none (inl (long, fits))) c.in_ok-found.ensures.none

pub returns-then-is_some-clause-filled : goal.returns-then-is_some-clause-filled
returns-then-is_some-clause-filled c =
    if_none_from _ _ c.in_ok-found.found
    (no_free_word c.args.profile.now c.args.wanted.count c.args.wanted.check c.args.recorded.now) c.in_ok-found.ensures.none

pub returns-clause-whole : goal.returns-clause-whole
returns-clause-whole c =
    let p = c.args.profile.now in
    let count = c.args.wanted.count in
    let wanted = c.args.wanted.check in
    let recorded = c.args.recorded.now in
    let left : ¬ CanBeFilled p count wanted recorded =
    subst (λ (o : Option (Vec ℕ Global)). IfNone o (¬ CanBeFilled p count wanted recorded))
    (is_none c.in_ok-found.found c.if-is_some.ensures) c.in_ok-found.ensures.none in
    ok_none (length recorded ≡ count → ¬ Fits p wanted recorded) c.of_one_byte.result (λ long fits. left (inl (long, fits)))

pub returns-clause-one_byte : goal.returns-clause-one_byte
returns-clause-one_byte c =
    let p = c.args.profile.now in
    let count = c.args.wanted.count in
    let wanted = c.args.wanted.check in
    let recorded = c.args.recorded.now in
    let left : ¬ CanBeFilled p count wanted recorded =
    subst (λ (o : Option (Vec ℕ Global)). IfNone o (¬ CanBeFilled p count wanted recorded))
    (is_none c.in_ok-found.found c.if-is_some.ensures) c.in_ok-found.ensures.none in
    ok_none_from ((last : ℕ) → last < 16 → ¬ CanBeFilled p 2 wanted (recorded ++ data_word p.codes (last ∷ []) ∷ [])) (count ≡ 2
    → length recorded < 2 → ¬ HasOneByte p wanted recorded) c.of_one_byte.result
    (λ after two few. no_one_byte p wanted recorded (subst (λ (n : ℕ). ¬ CanBeFilled p n wanted recorded) two left) after few)
    c.of_one_byte.ensures.none
