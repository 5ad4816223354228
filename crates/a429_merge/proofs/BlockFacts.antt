-- Data words that fit are those of a link data unit.
use Rattle.std.proofs.Common.{◌≡◌, ◌+◌, ◌-◌, ℕ, Bool, true, false, arith, refl, List, [], Option, Some, None, IfSome, IfNone, unwrap_or, option_map, length, if◌then◌else◌, sym, ap, ◌∙◌, subst}
use Rattle.a429_profile.specs.Profile.{Contents, IsProfile}
use Rattle.a429_ldu.specs.Carried.{CarryBytes, bytes_carried, bytes_in}
use Rattle.a429_ldu.specs.CheckWord.{check_of}
use Rattle.a429_ldu.specs.Ldu.{HasLength, IsFirstLduFault, IsLdu, LduValue, ldu_of}
use Rattle.a429_ldu.specs.declared.fault.LduFault.{LduFault}
use Rattle.a429_ldu.specs.declared.fault.LduFault.TheVariants.{Count, NotBytes, CheckWrong, OutOfMemory}
use Rattle.a429_ldu.proofs.CarriedFacts.{carries_of, one_list}
use Rattle.a429_merge.specs.declared.pieces.EndWord.{EndWord}
use Rattle.a429_merge.specs.declared.pieces.GroupPieces.{GroupPieces}
use Rattle.a429_merge.specs.Order.{HasEach, lists_of}
use Rattle.a429_merge.specs.Fill.{Fits, AreDataOf}
use Rattle.a429_merge.specs.Block.{check_wanted, HaveCheckWord, IsUnitOf, MayBeUnitOf}

-- they carry bytes
fitting : (p : Contents) → IsProfile p → (wanted : Option ℕ) (words : List ℕ) (f : Fits p wanted words) → CarryBytes p.codes words f.bytes
fitting p is wanted words f = carries_of p is words f.bytes f.carried

-- those that have the check word of a recorded end word
checked : (p : Contents)
    → IsProfile p → (words : List ℕ) (e : EndWord) → Fits p (check_wanted p (Some e)) words → HaveCheckWord p words e.check
checked p is words e f bytes carry compares =
    let same : bytes ≡ f.bytes = one_list p is words bytes f.bytes carry (fitting p is (check_wanted p (Some e)) words f) in
    let wanted : check_wanted p (Some e) ≡ Some e.check = ap (λ (b : Bool). if b then Some e.check else None) compares in
    let found : check_of p.check f.bytes ≡ e.check =
    subst (λ (o : Option ℕ). IfSome o (λ k. check_of p.check f.bytes ≡ k)) wanted f.check in
    sym (ap (check_of p.check) same ∙ found)

-- the check word that is made of their bytes
pub made : (p : Contents) → IsProfile p → (words bytes : List ℕ) (check : ℕ) → bytes_carried p.codes words ≡ Some bytes
    → check ≡ check_of p.check bytes → HaveCheckWord p words check
made p is words bytes check carried same other carry compares =
    same ∙ ap (check_of p.check) (one_list p is words bytes other (carries_of p is words bytes carried) carry)

-- nothing is wrong with them
pub no_fault : (p : Contents) → IsProfile p → (wanted : Option ℕ) (words : List ℕ) (check : ℕ) → Fits p wanted words → HasLength words
    → HaveCheckWord p words check → (f : LduFault) → ¬ IsFirstLduFault p check words f
no_fault p is wanted words check fits long has Count h = h long
no_fault p is wanted words check fits long has NotBytes h = h.1 fits.bytes (fitting p is wanted words fits)
no_fault p is wanted words check fits long has CheckWrong h = h.4 (has h.1 h.2 h.3)
no_fault p is wanted words check fits long has OutOfMemory h = h

-- those that have the check word of an end word, where one was recorded
pub recorded : (p : Contents) → IsProfile p → (words : List ℕ) (end : Option EndWord) → Fits p (check_wanted p end) words
    → IfSome end (λ e. HaveCheckWord p words e.check)
recorded p is words None fits = tt
recorded p is words (Some e) fits = checked p is words e fits

-- ---- what was not recorded

-- the end word that is made where none was recorded: flags 0, and the check word of the data words
abbrev pub IsMadeEnd : Contents → List ℕ → Option EndWord → EndWord → Type 0
IsMadeEnd p words recorded e = IfNone recorded ((e.flags ≡ 0) × (e.check ≡ check_of p.check (bytes_in p.codes words)))

pub end_made : (p : Contents) (words bytes : List ℕ) (end : Option EndWord) (e : EndWord)
    → bytes_carried p.codes words ≡ Some bytes → e.flags ≡ 0 → e.check ≡ check_of p.check bytes → IsMadeEnd p words end e
end_made p words bytes None e carried flags check =
    (flags, check ∙ ap (check_of p.check) (sym (ap (λ (o : Option (List ℕ)). unwrap_or o []) carried)))
end_made p words bytes (Some r) e carried flags check = tt

gfi_some : (o : Option ℕ) (n : ℕ) → n ≡ unwrap_or o 0 → IfSome o (λ k. n ≡ k)
gfi_some None n same = tt
gfi_some (Some k) n same = same

gfi_none : (o : Option ℕ) (n : ℕ) → n ≡ unwrap_or o 0 → IfNone o (n ≡ 0)
gfi_none None n same = same
gfi_none (Some k) n same = tt

end_same : (o : Option EndWord) (e : EndWord) → IfSome o (λ r. e ≡ r) → IfSome o (λ r. (e.flags ≡ r.flags) × (e.check ≡ r.check))
end_same None e same = tt
end_same (Some r) e same = (ap (λ (x : EndWord). x.flags) same, ap (λ (x : EndWord). x.check) same)

-- the link data unit of data words, with what was recorded and what is made
pub unit_of : (p : Contents) (pieces : GroupPieces) (u : LduValue) (gfi : ℕ) (e : EndWord) (words : List ℕ)
    → u ≡ ldu_of gfi e.flags e.check words → IsLdu p u → length words + 2 ≡ pieces.count
    → gfi ≡ unwrap_or pieces.gfi 0 → IfSome pieces.end (λ r. e ≡ r) → IsMadeEnd p words pieces.end e
    → HasEach words (lists_of pieces.attempts.items) → IsUnitOf p pieces u
unit_of p pieces u gfi e words same sound count first recorded made each = subst (IsUnitOf p pieces) (sym same) (record {
  unit = subst (IsLdu p) same sound;
  count = count;
  gfi = gfi_some pieces.gfi gfi first;
  no_gfi = gfi_none pieces.gfi gfi first;
  end = end_same pieces.end e recorded;
  no_end = made;
  each = each;
})

-- ---- a unit that the attempts may have been of

wanted_check : (p : Contents) (end : Option EndWord) (check flags made : ℕ) (compare : Bool)
    → compare ≡ p.check.compare → (p.check.compare ≡ true → check ≡ made) → IfSome end (λ e. (flags ≡ e.flags) × (check ≡ e.check))
    → IfSome (if compare then (option_map (λ e. e.check) end) else None) (λ k. made ≡ k)
wanted_check p end check flags made false is is_made same = tt
wanted_check p None check flags made true is is_made same = tt
wanted_check p (Some e) check flags made true is is_made same = sym (is_made (sym is)) ∙ same.1

same_wanted : (p : Contents) (end : Option EndWord) (compare : Bool)
    → compare ≡ p.check.compare → check_wanted p end ≡ (if compare then (option_map (λ (e : EndWord). e.check) end) else None)
same_wanted p None true is = refl
same_wanted p None false is = refl
same_wanted p (Some e) compare is = ap (λ (b : Bool). if b then Some e.check else None) (sym is)

pub data_of_unit : (p : Contents) → IsProfile p → (pieces : GroupPieces) (u : LduValue) → MayBeUnitOf p pieces u
    → AreDataOf p (pieces.count - 2) (check_wanted p pieces.end) (lists_of pieces.attempts.items) u.words
data_of_unit p is pieces u m = record {
  long = omega (arith, m.count);
  each = m.each;
  fits = record {
    bytes = m.unit.bytes;
    carried = m.unit.carries;
    check =
        subst (λ (o : Option ℕ). IfSome o (λ k. check_of p.check m.unit.bytes ≡ k)) (sym (same_wanted p pieces.end p.check.compare refl))
        (wanted_check p pieces.end u.check u.flags (check_of p.check m.unit.bytes) p.check.compare refl m.unit.checked m.end);
  };
}
