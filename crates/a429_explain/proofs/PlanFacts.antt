-- The plan that is carried out before an entry, and those that come after it.
use Rattle.std.proofs.Common.{◌≡◌, ℕ, suc, ◌+◌, ◌<◌, ◌==◌, Bool, true, false, cond, List, [], ◌∷◌, ◌++◌, length, take, get_or, Some, None, sym, ap, ◌∙◌, arith}
use Rattle.std.proofs.Math.Seq.{take-suc}
use Rattle.std.proofs.lemmas.List.{length-take-le}
use Rattle.std.specs.Option.{IfSome}
use Rattle.a429_profile.specs.Profile.{Contents}
use Rattle.a429_ldu.specs.Ldu.{IsLdu}
use Rattle.a429_explain.specs.declared.attempts.Role.{Role}
use Rattle.a429_explain.specs.declared.attempts.Role.TheVariants.{Request}
use Rattle.a429_explain.specs.declared.plan.Plan.{Plan}
use Rattle.a429_explain.specs.Plan.{ArePlans, plan_for, plans_left, plans_after}

-- its link data unit is one of the profile, as those of all plans are
pub plan_fits : (p : Contents) (r : Role) (n : ℕ) (plans : List Plan) → ArePlans p plans → IfSome (plan_for r n plans) (λ q. IsLdu p q.unit)
plan_fits p (Request k first) n [] h = tt
plan_fits p (Request k first) n (plan ∷ plans) h = by (plan.at == n)
  where
    by : (t : Bool) → IfSome (cond t (Some plan) None) (λ q. IsLdu p q.unit)
    by true = h.0
    by false = tt
plan_fits p _ n plans h = tt

pub left_fit : (p : Contents) (r : Role) (n : ℕ) (plans : List Plan) → ArePlans p plans → ArePlans p (plans_left r n plans)
left_fit p (Request k first) n [] h = tt
left_fit p (Request k first) n (plan ∷ plans) h = by (plan.at == n)
  where
    by : (t : Bool) → ArePlans p (cond t plans (plan ∷ plans))
    by true = h.1
    by false = h
left_fit p _ n plans h = h

-- one entry more
after_push : (rs : List Role) (r : Role) (at : ℕ) (plans : List Plan)
    → plans_after (rs ++ r ∷ []) at plans ≡ plans_left r (at + length rs) (plans_after rs at plans)
after_push [] r at plans = let none : at ≡ at + 0 = omega arith in ap (λ (n : ℕ). plans_left r n plans) none
after_push (x ∷ rs) r at plans =
    let one : at + 1 + length rs ≡ at + suc (length rs) = omega arith in
    after_push rs r (at + 1) (plans_left x at plans) ∙ ap (λ (n : ℕ). plans_left r n (plans_after rs (at + 1) (plans_left x at plans))) one

pub after_more : (rs : List Role) (n : ℕ) (r : Role) (plans : List Plan)
    → n < length rs → r ≡ get_or rs n r → plans_after (take (n + 1) rs) 0 plans ≡ plans_left r n (plans_after (take n rs) 0 plans)
after_more rs n r plans l is =
    let one : n + 1 ≡ suc n = omega arith in
    let next : take (n + 1) rs ≡ take n rs ++ r ∷ [] = rw one (take-suc rs n r l ∙ ap (λ (x : Role). take n rs ++ x ∷ []) (sym is)) in
    let long : 0 + length (take n rs) ≡ n = let all = length-take-le n rs (omega (arith, l)) in omega (arith, all) in
    ap (λ (xs : List Role). plans_after xs 0 plans) next ∙ after_push (take n rs) r 0 plans
    ∙ ap (λ (k : ℕ). plans_left r k (plans_after (take n rs) 0 plans)) long
