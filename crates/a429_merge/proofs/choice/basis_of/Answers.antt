use Rattle.std.proofs.Common.{◌≡◌, ◌+◌, ◌*◌, ◌^◌, ◌%◌, ◌<◌, ℕ, List, All, sym, ap, ◌∙◌, subst, arith, fold, take, get_or}
use Rattle.std.proofs.lemmas.Nat.{one_shl}
use Rattle.a429_merge.specs.declared.choice.Sum.{Sum}
use Rattle.a429_merge.specs.Choice.{IsBasis, reduced_by}
use Rattle.a429_merge.proofs.ChoiceFacts.{basis_same, basis_push}
use Rattle.a429_merge.proofs.choice.basis_of.Goals as goal
use Rattle.a429_merge.proofs.choice.basis_of.Goals.{After-reduced-rest, then-rest-ne0+in_ok-push, else-rest-ne0}

pub reduced-rest-requires : goal.reduced-rest-requires
reduced-rest-requires c = subst (λ basis. All (λ s. 0 < s.value) basis) (sym c.deref.ensures.value) c.loop-k.invariant.nonzero

-- what is left of the column
is : (c : After-reduced-rest)
    → c.reduced-rest.result
    ≡ fold reduced_by (record { value = get_or c.args.columns.now c.loop-k.k 0; chosen = 2 ^ c.loop-k.k }) c.loop-k.basis.items
is c =
    c.reduced-rest.ensures
    ∙ ap (λ (basis : List Sum).
    fold reduced_by (record { value = get_or c.args.columns.now c.loop-k.k 0; chosen = 1 * 2 ^ c.loop-k.k % 2 ^ 32 }) basis)
    c.deref.ensures.value
    ∙ ap (λ (n : ℕ). fold reduced_by (record { value = get_or c.args.columns.now c.loop-k.k 0; chosen = n }) c.loop-k.basis.items)
    (one_shl c.loop-k.k 32 (omega arith))

pub loop-k-preserved : goal.loop-k-preserved
loop-k-preserved c =
    let a = (goal.at.loop-k-preserved c).After-reduced-rest in
    let cs = c.args.columns.now in
    let k = c.loop-k.k in
    let old = c.loop-k.basis.items in
    let r = c.reduced-rest.result in
    elim c.if-rest-ne0.branch [
      | then-rest-ne0+in_ok-push w ↦
          subst (λ basis. IsBasis cs basis (take (k + 1) cs)) (sym (ap (λ v. v.items) w.basis-is ∙ w.in_ok-push.ensures.items))
          (basis_push cs old k c.loop-k.invariant c.loop-k-test.true r (is a) (omega (arith, c.type_inv.columns k))
          (let nonzero = w.if-rest-ne0.true in omega (arith, nonzero)))
      | else-rest-ne0 w ↦
          subst (λ basis. IsBasis cs basis (take (k + 1) cs)) (sym (ap (λ v. v.items) w.basis-is))
          (basis_same cs old k c.loop-k.invariant c.loop-k-test.true r (is a) w.if-rest-ne0.false)
    ]
