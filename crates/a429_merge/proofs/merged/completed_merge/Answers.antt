use Rattle.std.proofs.Common.{Vec, Global, ℕ, ◌≡◌, ◌<◌, length}
use Rattle.a429_word.proofs.Outcomes.{each_some}
use Rattle.a429_merge.specs.Order.{lists_of}
use Rattle.a429_merge.specs.Fill.{Fits, IsFilled, HasNoFreeWord, HasOneByte, CanBeFilled, CanBeCompleted, rest_filled}
use Rattle.a429_merge.proofs.FillFacts.{not_filled}
use Rattle.a429_merge.proofs.MergedFacts.{none_from, merge_filled, not_completed}
use Rattle.a429_merge.proofs.merged.completed_merge.Goals as goal

pub returns-clause-some : goal.returns-clause-some
returns-clause-some c =
    let p = c.args.profile.now in
    let count = c.args.wanted.count in
    let wanted = c.args.wanted.check in
    let L = lists_of c.args.lists.now in
    let merged = c.args.merged.now in
    each_some {P = λ (v : Vec ℕ Global). IsFilled p count wanted merged v.items} c.completed.result
    (λ v f. merge_filled p count wanted L merged v.items c.requires f) c.completed.ensures.some

pub returns-clause-none : goal.returns-clause-none
returns-clause-none c =
    let p = c.args.profile.now in
    let count = c.args.wanted.count in
    let wanted = c.args.wanted.check in
    let merged = c.args.merged.now in
    none_from (¬ CanBeFilled p count wanted merged) (count ≡ 2 → length merged < 2 → ¬ HasOneByte p wanted merged)
    (¬ CanBeCompleted p count wanted merged) c.completed.result
    (not_completed p count wanted merged)
    (none_from (length merged ≡ count → ¬ Fits p wanted merged) (length merged < count
    → HasNoFreeWord p wanted (rest_filled p.codes count merged)) (¬ CanBeFilled p count wanted merged) c.completed.result
    (not_filled p count wanted merged) c.completed.ensures.whole c.completed.ensures.filled)
    c.completed.ensures.one_byte
