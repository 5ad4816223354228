-- What is found in the words of a link data unit that crosses without loss.
use Rattle.std.proofs.Common.{◌≡◌, ℕ, suc, ◌+◌, ◌-◌, ◌%◌, ◌≤◌, ◌<◌, Bool, true, false, cond, not, ◌&&◌, ◌||◌, eqb, List, [], ◌∷◌, ◌++◌, map, length, slice_index, Option, Some, None, refl, sym, ap, ◌∙◌, subst, arith, append_assoc, append-nil, length-append, eq-eqb}
use Rattle.std.proofs.lemmas.Bool.{le-leb}
use Rattle.std.specs.Option.{option_or}
use Rattle.a429_word.specs.declared.bus.Bus.{Bus}
use Rattle.a429_word.specs.declared.bus.Bus.TheVariants as bus
use Rattle.a429_profile.specs.declared.codes.Codes.{Codes}
use Rattle.a429_profile.specs.Profile.{Contents, IsProfile}
use Rattle.a429_ldu.specs.declared.forms.Form.{Form}
use Rattle.a429_ldu.specs.declared.forms.Form.TheVariants.{Rts, Cts, Ack, Sot, Part, Eot}
use Rattle.a429_ldu.specs.declared.sight.Sight.TheVariants as sight
use Rattle.a429_ldu.specs.Form.{form_of, is_free, word_number}
use Rattle.a429_ldu.specs.Sight.{sight_of, sight_in}
use Rattle.a429_ldu.specs.Carried.{AreDataWords}
use Rattle.a429_ldu.specs.CheckWord.{check_of}
use Rattle.a429_ldu.specs.Ldu.{LduValue, IsLdu, count_of, block_of}
use Rattle.a429_ldu.proofs.CarriedFacts.{carries_of}
use Rattle.a429_ldu.proofs.FormFacts.{form_of-is, form_is_not_free, form_of-word_number}
use Rattle.a429_link.specs.declared.seen.Seen.{Seen}
use Rattle.a429_link.specs.Clean.{clean_block}
use Rattle.a429_link.specs.Carry.{on_a, on_b}
use Rattle.a429_link.specs.declared.number.UnitNumber.{UnitNumber}
use Rattle.a429_link.proofs.SourceBlock.{block_length}
use Rattle.a429_explain.specs.Matching.{is_word, passed_with, passing_as, passed_after}
use Rattle.a429_explain.specs.Whole.{ends_with, Recorded, nothing_yet, gathered_with, is_whole, unit_made, ended_by, first_whole, wanted, is_other, other_request}
use Rattle.a429_explain.proofs.AttemptsFacts.{IsOfBlock}

-- ---- its words say what they are

abbrev pub IsPart : Option Form → Type 0
IsPart (Some (Part semis)) = Unit {0}
IsPart _ = ⊥

abbrev pub AreParts : Codes → List ℕ → Type 0
AreParts c [] = Unit {0}
AreParts c (w ∷ ws) = IsPart (form_of c bus.A w) × AreParts c ws

abbrev pub AreOfBlock : Codes → List ℕ → Type 0
AreOfBlock c [] = Unit {0}
AreOfBlock c (w ∷ ws) = IsOfBlock (form_of c bus.A w) × AreOfBlock c ws

-- each word that is recorded of a link data unit has the form that it was made of
pub record HasForms (p : Contents) (place : UnitNumber) (u : LduValue) : Type 0 where
  pub request : form_of p.codes bus.A (word_number p.codes (Rts (count_of u))) ≡ Some (Rts (count_of u))
  pub clear : form_of p.codes bus.B (word_number p.codes (Cts (count_of u))) ≡ Some (Cts (count_of u))
  pub start : form_of p.codes bus.A (word_number p.codes (Sot u.gfi place.file place.ldu)) ≡ Some (Sot u.gfi place.file place.ldu)
  pub parts : AreParts p.codes u.words
  pub end : form_of p.codes bus.A (word_number p.codes (Eot u.flags u.check)) ≡ Some (Eot u.flags u.check)
  pub settled : form_of p.codes bus.B (word_number p.codes (Ack place.file place.ldu)) ≡ Some (Ack place.file place.ldu)

data_parts : (p : Contents) → IsProfile p → (ws : List ℕ) (ss : List (List ℕ)) → AreDataWords p.codes ws ss → AreParts p.codes ws
data_parts p is [] [] h = tt
data_parts p is (w ∷ ws) (s ∷ ss) h = (
  subst IsPart (sym ((form_of-is p is bus.A w (Part s)).1 (form_is_not_free p is bus.A w (Part s) h.0, h.0))) tt,
  data_parts p is ws ss h.1,
)
data_parts p is [] (s ∷ ss) h = absurd h
data_parts p is (w ∷ ws) [] h = absurd h

-- those of a unit of the profile do, under numbers of one byte
pub has_forms : (p : Contents)
    → IsProfile p → (place : UnitNumber) (u : LduValue) → IsLdu p u → place.file ≤ 255 → place.ldu ≤ 255 → HasForms p place u
has_forms p is place u h f l =
    let few = h.length.1 in
    let some = h.length.0 in
    let carries = carries_of p is u.words h.bytes h.carries in
    record {
      request = form_of-word_number p is (Rts (count_of u)) (omega arith, omega arith);
      clear = form_of-word_number p is (Cts (count_of u)) (omega arith, omega arith);
      start = form_of-word_number p is (Sot u.gfi place.file place.ldu) (h.gfi, f, l);
      parts = data_parts p is u.words carries.semis carries.words;
      end = form_of-word_number p is (Eot u.flags u.check) (h.flags, h.check);
      settled = form_of-word_number p is (Ack place.file place.ldu) (f, l);
    }

part_of_block : (o : Option Form) → IsPart o → IsOfBlock o
part_of_block (Some (Part s)) h = tt
part_of_block _ h = absurd h

parts_of_block : (c : Codes) (ws : List ℕ) (e : ℕ) → AreParts c ws → IsOfBlock (form_of c bus.A e) → AreOfBlock c (ws ++ e ∷ [])
parts_of_block c [] e h k = (k, tt)
parts_of_block c (w ∷ ws) e h k = (part_of_block (form_of c bus.A w) h.0, parts_of_block c ws e h.1 k)

-- each word of its block has a form of a block
pub block_has_forms : (p : Contents) (place : UnitNumber) (u : LduValue)
    → HasForms p place u → AreOfBlock p.codes (block_of p.codes u place.file place.ldu)
block_has_forms p place u s = (
  subst IsOfBlock (sym s.start) tt,
  parts_of_block p.codes u.words (word_number p.codes (Eot u.flags u.check)) s.parts (subst IsOfBlock (sym s.end) tt),
)

-- a word with a form is not free, and is seen as this form
not_free : (t u : Bool) (o : Option Form) (x : Form) → cond (t || u) None o ≡ Some x → t ≡ false
not_free true u o x e = absurd (cc e)
not_free false u o x e = refl

pub formed_free : (c : Codes) (b : Bus) (w : ℕ) (x : Form) → form_of c b w ≡ Some x → is_free c b w ≡ false
formed_free c b w x e = not_free (is_free c b w) _ _ x e

pub formed_sight : (c : Codes) (b : Bus) (w : ℕ) (x : Form) → form_of c b w ≡ Some x → sight_of c b w ≡ sight.Form x
formed_sight c b w x e = ap (λ (t : Bool). cond t sight.Free (sight_in (form_of c b w))) (formed_free c b w x e) ∙ ap sight_in e

-- ---- no request of another count

block_wants : (c : Codes) (b : Bus) (w : ℕ) (o : Option Form) → form_of c b w ≡ o → IsOfBlock o → wanted (sight_of c b w) ≡ None
block_wants c b w (Some (Sot g f l)) e h = ap wanted (formed_sight c b w (Sot g f l) e)
block_wants c b w (Some (Part s)) e h = ap wanted (formed_sight c b w (Part s) e)
block_wants c b w (Some (Eot f k)) e h = ap wanted (formed_sight c b w (Eot f k) e)
block_wants c b w _ e h = absurd h

other_next : (c : Codes) (count : ℕ) (i : Seen) (items : List Seen) (k : ℕ) → is_other count (wanted (sight_of c i.bus i.word)) ≡ false
    → other_request c count items (k + 1) ≡ None → other_request c count (i ∷ items) k ≡ None
other_next c count i items k e h = ap (λ (t : Bool). cond t (Some k) (other_request c count items (k + 1))) e ∙ h

others_of_block : (c : Codes) (count : ℕ) (ws : List ℕ) (ack : Seen) (k : ℕ)
    → AreOfBlock c ws → wanted (sight_of c ack.bus ack.word) ≡ None → other_request c count (map on_a ws ++ ack ∷ []) k ≡ None
others_of_block c count [] ack k h a = other_next c count ack [] k (ap (is_other count) a) refl
others_of_block c count (w ∷ ws) ack k h a =
    other_next c count (on_a w) (map on_a ws ++ ack ∷ []) k (ap (is_other count) (block_wants c bus.A w (form_of c bus.A w) refl h.0))
    (others_of_block c count ws ack (k + 1) h.1 a)

pub block_others : (p : Contents) (place : UnitNumber) (u : LduValue)
    → HasForms p place u → (k : ℕ) → other_request p.codes (count_of u) (clean_block p.codes place u) k ≡ None
block_others p place u s k =
    let c = p.codes in
    let n = count_of u in
    let ack = on_b (word_number c (Ack place.file place.ldu)) in
    let body = map on_a (block_of c u place.file place.ldu) ++ ack ∷ [] in
    let same : not (eqb n n) ≡ false = ap not (eq-eqb n n refl) in
    let asked : is_other n (wanted (sight_of c bus.A (word_number c (Rts n)))) ≡ false =
    ap (λ x. is_other n (wanted x)) (formed_sight c bus.A (word_number c (Rts n)) (Rts n) s.request) ∙ same in
    let cleared : is_other n (wanted (sight_of c bus.B (word_number c (Cts n)))) ≡ false =
    ap (λ x. is_other n (wanted x)) (formed_sight c bus.B (word_number c (Cts n)) (Cts n) s.clear) in
    let settled : wanted (sight_of c bus.B (word_number c (Ack place.file place.ldu))) ≡ None =
    ap wanted (formed_sight c bus.B (word_number c (Ack place.file place.ldu)) (Ack place.file place.ldu) s.settled) in
    other_next c n (on_a (word_number c (Rts n))) (on_b (word_number c (Cts n)) ∷ body) k asked
    (other_next c n (on_b (word_number c (Cts n))) body (k + 1) cleared
    (others_of_block c n (block_of c u place.file place.ldu) ack (k + 1 + 1) (block_has_forms p place u s) settled))

-- ---- it is the first whole one

pub whole_of : (p : Contents)
    → IsProfile p → (count : ℕ) (u : LduValue) → IsLdu p u → count_of u ≡ count → is_whole p count u.words u.check ≡ true
whole_of p is count u h e =
    let carried = h.carries in
    rw (eq-eqb (length u.words + 2) count e) (rw carried (compared p.check.compare refl))
  where
    compared : (b : Bool) → p.check.compare ≡ b → (not p.check.compare || eqb u.check (check_of p.check h.bytes)) ≡ true
    compared true e = rw e (eq-eqb _ _ (h.checked e))
    compared false e = rw e refl

pub made_of : (p : Contents) → IsProfile p → (count : ℕ) (u : LduValue) → IsLdu p u → count_of u ≡ count
    → unit_made p count (ends_with (Some u.gfi) u.flags u.check) u.words ≡ Some u
made_of p is count u h e = ap (λ (t : Bool). cond t (Some u) None) (whole_of p is count u h e)

-- the search goes on behind a word of this form
whole_word : (p : Contents) (count : ℕ) (i : Seen) (items : List Seen) (r : Recorded) (x : Option Form) → form_of p.codes i.bus i.word ≡ x
    → first_whole p count (i ∷ items) r ≡ option_or (ended_by p count x r) (first_whole p count items (gathered_with x i.word r))
whole_word p count i items r x e =
    ap (λ (o : Option Form). option_or (ended_by p count o r) (first_whole p count items (gathered_with o i.word r))) e

whole_part : (p : Contents) (count w : ℕ) (items : List Seen) (r : Recorded) (o : Option Form) → form_of p.codes bus.A w ≡ o → IsPart o
    → first_whole p count (on_a w ∷ items) r ≡ first_whole p count items (record { start = r.start; words = r.words ++ w ∷ [] })
whole_part p count w items r (Some (Part s)) e h = whole_word p count (on_a w) items r (Some (Part s)) e
whole_part p count w items r _ e h = absurd h

whole_parts : (p : Contents) → IsProfile p → (place : UnitNumber) (u : LduValue) → IsLdu p u → HasForms p place u → (qs ps : List ℕ)
    → qs ++ ps ≡ u.words → AreParts p.codes ps → (tail : List Seen)
    → first_whole p (count_of u) (map on_a (ps ++ word_number p.codes (Eot u.flags u.check) ∷ []) ++ tail)
    (record { start = Some u.gfi; words = qs }) ≡ Some u
whole_parts p is place u h s qs [] e a tail =
    let same : qs ≡ u.words = sym (append-nil qs) ∙ e in
    whole_word p (count_of u) (on_a (word_number p.codes (Eot u.flags u.check))) tail (record { start = Some u.gfi; words = qs })
    (Some (Eot u.flags u.check)) s.end
    ∙ ap (λ (o : Option LduValue). option_or o (first_whole p (count_of u) tail (record { start = Some u.gfi; words = qs })))
    (ap (λ (ws : List ℕ). unit_made p (count_of u) (ends_with (Some u.gfi) u.flags u.check) ws) same ∙ made_of p is (count_of u) u h refl)
whole_parts p is place u h s qs (q ∷ ps) e a tail =
    whole_part p (count_of u) q (map on_a (ps ++ word_number p.codes (Eot u.flags u.check) ∷ []) ++ tail)
    (record { start = Some u.gfi; words = qs }) (form_of p.codes bus.A q) refl a.0
    ∙ whole_parts p is place u h s (qs ++ q ∷ []) ps (append_assoc qs (q ∷ []) ps ∙ e) a.1 tail

pub block_whole : (p : Contents) → IsProfile p → (place : UnitNumber) (u : LduValue) → IsLdu p u → HasForms p place u
    → first_whole p (count_of u) (clean_block p.codes place u) nothing_yet ≡ Some u
block_whole p is place u h s =
    let c = p.codes in
    let n = count_of u in
    let tail = on_b (word_number c (Ack place.file place.ldu)) ∷ [] in
    let words = map on_a (u.words ++ word_number c (Eot u.flags u.check) ∷ []) ++ tail in
    let body = on_a (word_number c (Sot u.gfi place.file place.ldu)) ∷ words in
    whole_word p n (on_a (word_number c (Rts n))) (on_b (word_number c (Cts n)) ∷ body) nothing_yet (Some (Rts n)) s.request
    ∙ whole_word p n (on_b (word_number c (Cts n))) body nothing_yet (Some (Cts n)) s.clear
    ∙ whole_word p n (on_a (word_number c (Sot u.gfi place.file place.ldu))) words nothing_yet
    (Some (Sot u.gfi place.file place.ldu)) s.start
    ∙ whole_parts p is place u h s [] u.words refl s.parts tail

-- ---- each word is the next of its block

at_seam : (qs : List ℕ) (w : ℕ) (ps : List ℕ) → slice_index (qs ++ w ∷ ps) (length qs) ≡ w
at_seam [] w ps = refl
at_seam (q ∷ qs) w ps = at_seam qs w ps

here : (c : Codes) (u : LduValue) (place : UnitNumber) (qs : List ℕ) (w : ℕ) (ps : List ℕ)
    → place.ldu ≤ 255 → qs ++ w ∷ ps ≡ block_of c u place.file place.ldu → is_word c u place w (length qs) ≡ true
here c u place qs w ps l e =
    let small : place.ldu % 256 ≡ place.ldu = omega arith in
    let is : slice_index (block_of c u place.file place.ldu) (length qs) ≡ w =
    ap (λ (ws : List ℕ). slice_index ws (length qs)) (sym e) ∙ at_seam qs w ps in
    let found : eqb w (slice_index (block_of c u place.file (place.ldu % 256)) (length qs)) ≡ true =
    eq-eqb _ _ (sym (ap (λ (m : ℕ). slice_index (block_of c u place.file m) (length qs)) small ∙ is)) in
    ap (λ (t : Bool). (t || not (eqb (length qs) 0)) && eqb w (slice_index (block_of c u place.file (place.ldu % 256)) (length qs)))
    (le-leb place.ldu 255 l) ∙ found

passed_here : (is : ℕ → Bool) (k n : ℕ) → is k ≡ true → k < n → passed_with is k (n - k) ≡ Some (suc k)
passed_here is k n e l =
    let more : n - k ≡ suc (n - suc k) = omega arith in
    ap (passed_with is k) more ∙ ap (λ (t : Bool). cond t (Some (suc k)) (passed_with is (suc k) (n - suc k))) e

of_block_passes : (o : Option Form) (m : Option ℕ) (k : ℕ) → IsOfBlock o → passing_as o m k ≡ m
of_block_passes (Some (Sot g f l)) m k h = refl
of_block_passes (Some (Part s)) m k h = refl
of_block_passes (Some (Eot f q)) m k h = refl
of_block_passes _ m k h = absurd h

-- the acknowledgement passes nothing
passed_ack : (c : Codes) (u : LduValue) (place : UnitNumber) (ack : Seen) (file ldu k : ℕ)
    → form_of c ack.bus ack.word ≡ Some (Ack file ldu) → passed_after c u place (ack ∷ []) (Some k) ≡ Some k
passed_ack c u place ack file ldu k e =
    ap (λ (o : Option Form). passing_as o (passed_with (is_word c u place ack.word) k (count_of u - k)) k) e

passed_words : (c : Codes) (u : LduValue) (place : UnitNumber) (ack : Seen) (file ldu : ℕ)
    → place.ldu ≤ 255 → form_of c ack.bus ack.word ≡ Some (Ack file ldu) → (qs ps : List ℕ) → qs ++ ps ≡ block_of c u place.file place.ldu
    → AreOfBlock c ps → (k : ℕ) → k ≡ length qs → passed_after c u place (map on_a ps ++ ack ∷ []) (Some k) ≡ Some (count_of u)
passed_words c u place ack file ldu l a qs [] e h k ek =
    let same : qs ≡ block_of c u place.file place.ldu = sym (append-nil qs) ∙ e in
    passed_ack c u place ack file ldu k a ∙ ap Some (ek ∙ ap length same ∙ block_length c u place)
passed_words c u place ack file ldu l a qs (w ∷ ps) e h k ek =
    let long : length (qs ++ w ∷ ps) ≡ count_of u = ap length e ∙ block_length c u place in
    let room : k < count_of u = omega (arith, long, length-append qs (w ∷ ps)) in
    let found : is_word c u place w k ≡ true = ap (is_word c u place w) ek ∙ here c u place qs w ps l e in
    let step : passing_as (form_of c bus.A w) (passed_with (is_word c u place w) k (count_of u - k)) k ≡ Some (suc k) =
    of_block_passes (form_of c bus.A w) (passed_with (is_word c u place w) k (count_of u - k)) k h.0
    ∙ passed_here (is_word c u place w) k (count_of u) found room in
    ap (passed_after c u place (map on_a ps ++ ack ∷ [])) step
    ∙ passed_words c u place ack file ldu l a (qs ++ w ∷ []) ps (append_assoc qs (w ∷ []) ps ∙ e) h.1 (suc k)
    (ap suc ek ∙ sym (omega (arith, length-append qs (w ∷ []))))

pub block_passed : (p : Contents) (u : LduValue) (place : UnitNumber)
    → place.ldu ≤ 255 → HasForms p place u → passed_after p.codes u place (clean_block p.codes place u) (Some 0) ≡ Some (count_of u)
block_passed p u place l s =
    let c = p.codes in
    let n = count_of u in
    let ack = on_b (word_number c (Ack place.file place.ldu)) in
    let body = map on_a (block_of c u place.file place.ldu) ++ ack ∷ [] in
    let asked : passing_as (form_of c bus.A (word_number c (Rts n))) (passed_with (is_word c u place (word_number c (Rts n))) 0 (n - 0)) 0
    ≡ Some 0 =
    ap (λ (o : Option Form). passing_as o (passed_with (is_word c u place (word_number c (Rts n))) 0 (n - 0)) 0) s.request in
    let cleared : passing_as (form_of c bus.B (word_number c (Cts n))) (passed_with (is_word c u place (word_number c (Cts n))) 0 (n - 0)) 0
    ≡ Some 0 =
    ap (λ (o : Option Form). passing_as o (passed_with (is_word c u place (word_number c (Cts n))) 0 (n - 0)) 0) s.clear in
    ap (passed_after c u place (on_b (word_number c (Cts n)) ∷ body)) asked
    ∙ ap (passed_after c u place body) cleared
    ∙ passed_words c u place ack place.file place.ldu l s.settled [] (block_of c u place.file place.ldu) refl
    (block_has_forms p place u s) 0 refl
