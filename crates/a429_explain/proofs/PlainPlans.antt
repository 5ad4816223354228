-- The plans of a recording without loss: one for each request.
use Rattle.std.proofs.Common.{◌≡◌, ℕ, zero, suc, ◌+◌, Bool, true, false, cond, List, [], ◌∷◌, ◌++◌, map, take, drop, Option, Some, None, is_some, refl, sym, ap, ◌∙◌, subst, arith}
use Rattle.a429_word.specs.declared.bus.Bus.{Bus}
use Rattle.a429_word.specs.declared.bus.Bus.TheVariants as bus
use Rattle.a429_profile.specs.declared.codes.Codes.{Codes}
use Rattle.a429_profile.specs.Profile.{Contents}
use Rattle.a429_ldu.specs.declared.forms.Form.{Form}
use Rattle.a429_ldu.specs.declared.forms.Form.TheVariants.{Rts, Cts, Ack, Nak, Sot, Part, Eot}
use Rattle.a429_ldu.specs.declared.sight.Sight.TheVariants as sight
use Rattle.a429_ldu.specs.Form.{form_of, is_free, word_number}
use Rattle.a429_ldu.specs.Sight.{sight_of, sight_in}
use Rattle.a429_ldu.specs.Ldu.{LduValue, block_of, count_of}
use Rattle.a429_link.specs.declared.number.UnitNumber.{UnitNumber}
use Rattle.a429_link.specs.declared.seen.Seen.{Seen}
use Rattle.a429_link.specs.Clean.{clean_block, without_free}
use Rattle.a429_link.specs.Carry.{on_a, on_b}
use Rattle.a429_explain.specs.declared.plan.Plan.{Plan}
use Rattle.a429_explain.specs.Plan.{plain}
use Rattle.a429_explain.specs.Guess.{plain_plans}
use Rattle.a429_explain.specs.Whole.{wanted}
use Rattle.a429_explain.proofs.CleanBlock.{HasForms, AreOfBlock, block_has_forms, formed_sight}
use Rattle.a429_explain.proofs.Thinned.{free_sight}
use Rattle.a429_explain.proofs.AttemptsFacts.{IsOfBlock}

-- ---- words that are no requests

-- no request
abbrev pub IsOther : Option Form → Type 0
IsOther (Some (Rts n)) = ⊥
IsOther _ = Unit {0}

pub other_wants : (c : Codes) (b : Bus) (w : ℕ) (o : Option Form) → form_of c b w ≡ o → IsOther o → wanted (sight_of c b w) ≡ None
other_wants c b w None e h = by (is_free c b w)
  where
    by : (t : Bool) → wanted (cond t sight.Free (sight_in (form_of c b w))) ≡ None
    by true = refl
    by false = ap (λ (o : Option Form). wanted (sight_in o)) e
other_wants c b w (Some (Rts n)) e h = absurd h
other_wants c b w (Some (Cts n)) e h = ap wanted (formed_sight c b w (Cts n) e)
other_wants c b w (Some (Ack f l)) e h = ap wanted (formed_sight c b w (Ack f l) e)
other_wants c b w (Some (Nak m)) e h = ap wanted (formed_sight c b w (Nak m) e)
other_wants c b w (Some (Sot g f l)) e h = ap wanted (formed_sight c b w (Sot g f l) e)
other_wants c b w (Some (Part s)) e h = ap wanted (formed_sight c b w (Part s) e)
other_wants c b w (Some (Eot f k)) e h = ap wanted (formed_sight c b w (Eot f k) e)

abbrev AreOthers : Codes → List Seen → Type 0
AreOthers c [] = Unit {0}
AreOthers c (i ∷ items) = (wanted (sight_of c i.bus i.word) ≡ None) × AreOthers c items

others_thin : (c : Codes) (items : List Seen) → AreOthers c (without_free c items) → AreOthers c items
others_thin c [] h = tt
others_thin c (i ∷ items) h = by (is_free c i.bus i.word) refl (others_thin c items) h
  where
    by : (t : Bool) → is_free c i.bus i.word ≡ t → (AreOthers c (without_free c items) → AreOthers c items)
        → AreOthers c (cond t (without_free c items) (i ∷ without_free c items)) → AreOthers c (i ∷ items)
    by true e more k = (free_sight c i.bus i.word e, more k)
    by false e more k = (k.0, more k.1)

of_block_other : (o : Option Form) → IsOfBlock o → IsOther o
of_block_other (Some (Sot g f l)) h = tt
of_block_other (Some (Part s)) h = tt
of_block_other (Some (Eot f k)) h = tt
of_block_other _ h = absurd h

block_others : (c : Codes) (ws : List ℕ) (i : Seen)
    → AreOfBlock c ws → wanted (sight_of c i.bus i.word) ≡ None → AreOthers c (map on_a ws ++ i ∷ [])
block_others c [] i h k = (k, tt)
block_others c (w ∷ ws) i h k =
    (other_wants c bus.A w (form_of c bus.A w) refl (of_block_other (form_of c bus.A w) h.0), block_others c ws i h.1 k)

-- of the words of a block that crosses without loss the first alone is a request
others_after : (p : Contents) (place : UnitNumber) (u : LduValue) → HasForms p place u
    → AreOthers p.codes (on_b (word_number p.codes (Cts (count_of u)))
    ∷ (map on_a (block_of p.codes u place.file place.ldu) ++ on_b (word_number p.codes (Ack place.file place.ldu)) ∷ []))
others_after p place u s =
    let c = p.codes in (
      other_wants c bus.B (word_number c (Cts (count_of u))) (Some (Cts (count_of u))) s.clear tt,
      block_others c (block_of c u place.file place.ldu) (on_b (word_number c (Ack place.file place.ldu))) (block_has_forms p place u s)
          (other_wants c bus.B (word_number c (Ack place.file place.ldu)) (Some (Ack place.file place.ldu)) s.settled tt),
    )

-- ---- the plans

-- no plan is for a word that is no request
pub plain_past : (c : Codes) (k : ℕ) (us : List LduValue) (i : Seen) (items : List Seen)
    → wanted (sight_of c i.bus i.word) ≡ None → plain_plans c k us (i ∷ items) ≡ plain_plans c (k + 1) us items
plain_past c k [] i items w = refl
plain_past c k (u ∷ us) i items w =
    ap (λ (o : Option ℕ). cond (is_some o) (plain k u ∷ plain_plans c (k + 1) us items) (plain_plans c (k + 1) (u ∷ us) items)) w

-- the first is for a request
pub plain_asked : (c : Codes) (k : ℕ) (u : LduValue) (us : List LduValue) (i : Seen) (items : List Seen) (n : ℕ)
    → wanted (sight_of c i.bus i.word) ≡ Some n → plain_plans c k (u ∷ us) (i ∷ items) ≡ plain k u ∷ plain_plans c (k + 1) us items
plain_asked c k u us i items n w =
    ap (λ (o : Option ℕ). cond (is_some o) (plain k u ∷ plain_plans c (k + 1) us items) (plain_plans c (k + 1) (u ∷ us) items)) w

pub plain_end : (c : Codes) (k : ℕ) (us : List LduValue) → plain_plans c k us [] ≡ []
plain_end c k [] = refl
plain_end c k (u ∷ us) = refl

plain_over : (c : Codes) (k : ℕ) (us : List LduValue) (n : ℕ) (items : List Seen)
    → AreOthers c (take n items) → plain_plans c k us items ≡ plain_plans c (k + n) us (drop n items)
plain_over c k us zero items h = let same : k + 0 ≡ k = omega arith in ap (λ (m : ℕ). plain_plans c m us items) (sym same)
plain_over c k us (suc n) [] h = plain_end c k us ∙ sym (plain_end c (k + suc n) us)
plain_over c k us (suc n) (i ∷ items) h =
    let same : (k + 1) + n ≡ k + suc n = omega arith in
    plain_past c k us i items h.0 ∙ plain_over c (k + 1) us n items h.1 ∙ ap (λ (m : ℕ). plain_plans c m us (drop n items)) same

-- those from the first word of a block on are its own, and those from the end of its group on
pub plain_group : (p : Contents) (place : UnitNumber) (u : LduValue) (us : List LduValue) (k n count : ℕ) (i : Seen) (items : List Seen)
    → HasForms p place u → is_free p.codes i.bus i.word ≡ false → wanted (sight_of p.codes i.bus i.word) ≡ Some count
    → without_free p.codes (take (suc n) (i ∷ items)) ≡ clean_block p.codes place u
    → plain_plans p.codes k (u ∷ us) (i ∷ items) ≡ plain k u ∷ plain_plans p.codes (k + suc n) us (drop n items)
plain_group p place u us k n count i items s kept w e =
    let c = p.codes in
    let all : i ∷ without_free c (take n items) ≡ clean_block c place u =
    sym (ap (λ (t : Bool). cond t (without_free c (take n items)) (i ∷ without_free c (take n items))) kept) ∙ e in
    let left : without_free c (take n items) ≡ on_b (word_number c (Cts (count_of u)))
    ∷ (map on_a (block_of c u place.file place.ldu) ++ on_b (word_number c (Ack place.file place.ldu)) ∷ []) =
    cc all in
    let others = others_thin c (take n items) (subst (AreOthers c) (sym left) (others_after p place u s)) in
    let same : (k + 1) + n ≡ k + suc n = omega arith in
    plain_asked c k u us i items count w
    ∙ ap (λ (ps : List Plan). plain k u ∷ ps)
    (plain_over c (k + 1) us n items others ∙ ap (λ (m : ℕ). plain_plans c m us (drop n items)) same)
