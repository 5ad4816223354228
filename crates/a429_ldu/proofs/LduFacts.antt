-- What a link data unit is made of.
use Rattle.std.proofs.Common.{◌≡◌, ◌≢◌, ℕ, ◌≤◌, List, length, Bool, true, false, not, ◌||◌, eqb, refl, sym, ap, ◌∙◌, subst, [], Some, unwrap_or, arith}
use Rattle.std.proofs.lemmas.Bool.{eqb-true, eqb-false, eq-eqb}
use Rattle.a429_profile.specs.declared.codes.Check.{Check}
use Rattle.a429_profile.specs.Profile.{Contents, IsProfile}
use Rattle.a429_ldu.specs.Carried.{bytes_carried}
use Rattle.a429_ldu.specs.CheckWord.{check_of, agrees}
use Rattle.a429_ldu.specs.declared.fault.LduFault.{LduFault}
use Rattle.a429_ldu.specs.declared.fault.LduFault.TheVariants.{Count, NotBytes, CheckWrong, OutOfMemory}
use Rattle.a429_ldu.specs.Ldu.{LduValue, HasLength, IsLdu, IsFirstLduFault, bytes_of}
use Rattle.a429_ldu.proofs.CarriedFacts.{carries_of, carried_of, carried-most}

-- a check word that does not agree is compared, and is another
pub differs : (k : Check) (bs : List ℕ) (check : ℕ) → agrees k bs check ≡ false → (k.compare ≡ true) × (check ≢ check_of k bs)
differs k bs check h = by k.compare refl h
  where
    by : (b : Bool) → k.compare ≡ b → (not b || eqb check (check_of k bs)) ≡ false → (k.compare ≡ true) × (check ≢ check_of k bs)
    by true e n = (e, eqb-false check (check_of k bs) n)
    by false e n = cc

-- one that agrees is that of the bytes where it is compared
pub same_check : (k : Check) (bs : List ℕ) (check : ℕ) → agrees k bs check ≡ true → k.compare ≡ true → check ≡ check_of k bs
same_check k bs check h e = by k.compare e h
  where
    by : (b : Bool) → b ≡ true → (not b || eqb check (check_of k bs)) ≡ true → check ≡ check_of k bs
    by true _ t = eqb-true check (check_of k bs) t
    by false n _ = cc

pub made : (p : Contents) (gfi flags check : ℕ) (ws us bs : List ℕ)
    → gfi ≤ 15 → flags ≤ 15 → check ≤ 65535 → HasLength ws → us ≡ ws → bytes_carried p.codes ws ≡ Some bs → agrees p.check bs check ≡ true →
    IsLdu p (record { gfi = gfi; flags = flags; check = check; words = us })
made p gfi flags check ws us bs hg hf hc size eu carries h = record {
  gfi = hg;
  flags = hf;
  check = hc;
  length = subst HasLength (sym eu) size;
  bytes = bs;
  carries = subst (λ (xs : List ℕ). bytes_carried p.codes xs ≡ Some bs) (sym eu) carries;
  checked = same_check p.check bs check h;
}

unit_bytes : (p : Contents) (u : LduValue) (h : IsLdu p u) → bytes_of p.codes u ≡ h.bytes
unit_bytes p u h = ap (λ o. unwrap_or o []) h.carries

-- a link data unit has 1 to 632 bytes
pub few_bytes : (p : Contents) (u : LduValue)
    → IsProfile p → IsLdu p u → (1 ≤ length (bytes_of p.codes u)) × (length (bytes_of p.codes u) ≤ 632)
few_bytes p u is h =
    let carries = carries_of p is u.words h.bytes h.carries in
    let most = carried-most p.codes u.words h.bytes carries in
    let words = h.length in
    let some = carries.carries.some in
    rw (unit_bytes p u h) (some, omega (arith, most, words.1))

-- the check word of a link data unit agrees with its bytes
pub unit_agrees : (p : Contents) (u : LduValue) → IsProfile p → IsLdu p u → agrees p.check (bytes_of p.codes u) u.check ≡ true
unit_agrees p u is h = subst (λ (bs : List ℕ). agrees p.check bs u.check ≡ true) (sym (unit_bytes p u h)) (by p.check.compare refl)
  where
    by : (b : Bool) → p.check.compare ≡ b → agrees p.check h.bytes u.check ≡ true
    by true e = rw e (eq-eqb u.check (check_of p.check h.bytes) (h.checked e))
    by false e = rw e refl

-- a link data unit has no fault
pub no_fault : (p : Contents) (u : LduValue) (f : LduFault) → IsProfile p → IsLdu p u → ¬ IsFirstLduFault p u.check u.words f
no_fault p u Count is h fault = fault h.length
no_fault p u NotBytes is h fault = fault.1 h.bytes (carries_of p is u.words h.bytes h.carries)
no_fault p u CheckWrong is h fault =
    let same : fault.1 ≡ h.bytes = ap (λ o. unwrap_or o []) (sym (carried_of p is u.words fault.1 fault.2) ∙ h.carries) in
    fault.4 (h.checked fault.3 ∙ ap (check_of p.check) (sym same))
no_fault p u OutOfMemory is h fault = fault

-- there is one first fault
pub one_fault : (p : Contents) (check : ℕ) (ws : List ℕ) (f g : LduFault)
    → IsFirstLduFault p check ws f → IsFirstLduFault p check ws g → f ≡ g
one_fault p check ws Count Count h k = refl
one_fault p check ws Count NotBytes h k = absurd (h k.0)
one_fault p check ws Count CheckWrong h k = absurd (h k.0)
one_fault p check ws NotBytes Count h k = absurd (k h.0)
one_fault p check ws NotBytes NotBytes h k = refl
one_fault p check ws NotBytes CheckWrong h k = absurd (h.1 k.1 k.2)
one_fault p check ws CheckWrong Count h k = absurd (k h.0)
one_fault p check ws CheckWrong NotBytes h k = absurd (k.1 h.1 h.2)
one_fault p check ws CheckWrong CheckWrong h k = refl
one_fault p check ws OutOfMemory g h k = absurd h
one_fault p check ws f OutOfMemory h k = absurd k
