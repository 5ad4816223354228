-- The groups of a recording without loss.
use Rattle.std.proofs.Common.{◌≡◌, ℕ, zero, suc, ◌+◌, ◌-◌, ◌%◌, ◌≤◌, Bool, true, false, cond, not, List, [], ◌∷◌, ◌++◌, map, take, drop, slice_get, Option, Some, None, refl, sym, ap, ◌∙◌, subst, arith, append_assoc, eq-eqb, min}
use Rattle.std.proofs.lemmas.Bool.{ne_eqb}
use Rattle.a429_word.specs.declared.bus.Bus.TheVariants as bus
use Rattle.a429_word.proofs.ListFacts.{no_middle}
use Rattle.a429_profile.specs.declared.codes.Codes.{Codes}
use Rattle.a429_profile.specs.Profile.{Contents, IsProfile}
use Rattle.a429_profile.proofs.ProfileRanges.{in_range}
use Rattle.a429_ldu.specs.declared.forms.Form.{Form}
use Rattle.a429_ldu.specs.declared.forms.Form.TheVariants.{Rts, Cts, Ack, Nak, Sot, Part, Eot}
use Rattle.a429_ldu.specs.Form.{form_of, is_free, word_number}
use Rattle.a429_ldu.specs.Ldu.{LduValue, IsLdu, count_of, block_of}
use Rattle.a429_ldu.proofs.FormFree.{free_none}
use Rattle.a429_link.specs.declared.seen.Seen.{Seen}
use Rattle.a429_link.specs.Clean.{clean_block, clean_blocks, AllFit, without_free}
use Rattle.a429_link.specs.Carry.{on_a, on_b}
use Rattle.a429_link.specs.declared.number.UnitNumber.{UnitNumber}
use Rattle.a429_explain.specs.declared.attempts.StartNumbers.{StartNumbers}
use Rattle.a429_explain.specs.declared.attempts.Role.{Role}
use Rattle.a429_explain.specs.declared.attempts.Role.TheVariants.{Request, Acknowledged}
use Rattle.a429_explain.specs.declared.groups.Grouping.TheVariants.{Between, Within}
use Rattle.a429_explain.specs.Attempts.{attempt_start, next_start, are_numbers, role_of, roles}
use Rattle.a429_explain.specs.Decoded.{forms_of}
use Rattle.a429_explain.specs.Groups.{words_in, group_length, first_started, ends_its_group}
use Rattle.a429_explain.specs.Guess.{first_file_of, file_of}
use Rattle.a429_explain.proofs.Thinned.{attempt_start-thin, next_start-thin}
use Rattle.a429_explain.proofs.CleanBlock.{HasForms, AreOfBlock, has_forms, block_has_forms}
use Rattle.a429_link.specs.Number.{first_number, next_number, number_after}
use Rattle.a429_link.proofs.NumberFacts.{next_byte}
use Rattle.a429_explain.proofs.AttemptsFacts.{IsOfBlock}

-- ---- a group ends at its acknowledgement

-- neither a request nor an acknowledgement
abbrev pub IsInner : Option Form → Type 0
IsInner (Some (Rts n)) = ⊥
IsInner (Some (Ack file ldu)) = ⊥
IsInner _ = Unit {0}

abbrev pub AreInner : Codes → List Seen → Type 0
AreInner c [] = Unit {0}
AreInner c (i ∷ items) = IsInner (form_of c i.bus i.word) × AreInner c items

goes_past : (o : Option Form) (more : List (Option Form)) (rs : List Role) (start : Option StartNumbers)
    → IsInner o → words_in (Within start) (role_of o more ∷ rs) ≡ suc (words_in (Within start) rs)
goes_past None more rs start h = refl
goes_past (Some (Rts n)) more rs start h = absurd h
goes_past (Some (Cts n)) more rs start h = refl
goes_past (Some (Ack f l)) more rs start h = absurd h
goes_past (Some (Nak b)) more rs start h = refl
goes_past (Some (Sot g f l)) more rs start h = refl
goes_past (Some (Part s)) more rs start h = refl
goes_past (Some (Eot f k)) more rs start h = refl

words_between : (rs : List Role) → words_in Between rs ≡ 0
words_between [] = refl
words_between (r ∷ rs) = refl

ack_role : (o : Option Form) (more : List (Option Form)) (file ldu : ℕ)
    → o ≡ Some (Ack file ldu) → are_numbers (next_start more) file ldu ≡ false → role_of o more ≡ Acknowledged true
ack_role o more file ldu e n = ap (λ (x : Option Form). role_of x more) e ∙ ap (λ (t : Bool). Acknowledged (not t)) n

ends : (r : Role) (rs : List Role) (start : Option StartNumbers) → r ≡ Acknowledged true → words_in (Within start) (r ∷ rs) ≡ 1
ends r rs start e = ap (λ (q : Role). words_in (Within start) (q ∷ rs)) e ∙ ap suc (words_between rs)

-- the first n words end the group, and these come behind it
pub record Parts (c : Codes) (items group rest : List Seen) (n : ℕ) : Type 0 where
  pub group_is : without_free c (take n items) ≡ group
  pub rest_is : without_free c (drop n items) ≡ rest
  pub some : 1 ≤ n
  pub settled : ends_its_group (slice_get (roles (forms_of c items)) (n - 1)) ≡ true

abbrev pub words_to_go : Codes → Option StartNumbers → List Seen → ℕ
words_to_go c start items = words_in (Within start) (roles (forms_of c items))

-- the last of some words, where one more comes before them
later : (r : Role) (rs : List Role) (n : ℕ) → 1 ≤ n → slice_get (r ∷ rs) (suc n - 1) ≡ slice_get rs (n - 1)
later r rs zero l = absurd (omega arith)
later r rs (suc n) l =
    let more : suc (suc n) - 1 ≡ suc n = omega arith in
    let less : suc n - 1 ≡ n = omega arith in
    ap (λ (k : ℕ). slice_get (r ∷ rs) k) more ∙ sym (ap (λ (k : ℕ). slice_get rs k) less)

parts_free : (c : Codes) (start : Option StartNumbers) (i : Seen) (items group rest : List Seen) → is_free c i.bus i.word ≡ true
    → Parts c items group rest (words_to_go c start items) → Parts c (i ∷ items) group rest (words_to_go c start (i ∷ items))
parts_free c start i items group rest e h =
    let k = words_to_go c start items in
    let n : words_to_go c start (i ∷ items) ≡ suc k =
    goes_past (form_of c i.bus i.word) (forms_of c items) (roles (forms_of c items)) start
    (subst IsInner (sym (free_none c i.bus i.word e)) tt) in
    subst (Parts c (i ∷ items) group rest) (sym n) (record {
      group_is = ap (λ (t : Bool). cond t (without_free c (take k items)) (i ∷ without_free c (take k items))) e ∙ h.group_is;
      rest_is = h.rest_is;
      some = omega arith;
      settled =
          ap ends_its_group (later (role_of (form_of c i.bus i.word) (forms_of c items)) (roles (forms_of c items)) k h.some) ∙ h.settled;
    })

-- a word more, before those that end the group
pub parts_next : (c : Codes) (i : Seen) (items group rest : List Seen) (k : ℕ)
    → is_free c i.bus i.word ≡ false → Parts c items group rest k → Parts c (i ∷ items) (i ∷ group) rest (suc k)
parts_next c i items group rest k e h = record {
  group_is = ap (λ (t : Bool). cond t (without_free c (take k items)) (i ∷ without_free c (take k items))) e
      ∙ ap (λ (xs : List Seen). i ∷ xs) h.group_is;
  rest_is = h.rest_is;
  some = omega arith;
  settled = ap ends_its_group (later (role_of (form_of c i.bus i.word) (forms_of c items)) (roles (forms_of c items)) k h.some) ∙ h.settled;
}

parts_inner : (c : Codes) (start : Option StartNumbers) (i : Seen) (items group rest : List Seen)
    → is_free c i.bus i.word ≡ false → IsInner (form_of c i.bus i.word) → Parts c items group rest (words_to_go c start items)
    → Parts c (i ∷ items) (i ∷ group) rest (words_to_go c start (i ∷ items))
parts_inner c start i items group rest e a h =
    let n : words_to_go c start (i ∷ items) ≡ suc (words_to_go c start items) =
    goes_past (form_of c i.bus i.word) (forms_of c items) (roles (forms_of c items)) start a in
    subst (Parts c (i ∷ items) (i ∷ group) rest) (sym n) (parts_next c i items group rest (words_to_go c start items) e h)

parts_last : (c : Codes) (start : Option StartNumbers) (i : Seen) (items : List Seen) (file ldu : ℕ) → is_free c i.bus i.word ≡ false
    → form_of c i.bus i.word ≡ Some (Ack file ldu) → are_numbers (next_start (forms_of c items)) file ldu ≡ false
    → Parts c (i ∷ items) (i ∷ []) (without_free c items) (words_to_go c start (i ∷ items))
parts_last c start i items file ldu e a n =
    let role = ack_role (form_of c i.bus i.word) (forms_of c items) file ldu a n in
    let one : words_to_go c start (i ∷ items) ≡ 1 =
    ends (role_of (form_of c i.bus i.word) (forms_of c items)) (roles (forms_of c items)) start role in
    subst (Parts c (i ∷ items) (i ∷ []) (without_free c items)) (sym one) (record {
      group_is = ap (λ (t : Bool). cond t [] (i ∷ [])) e;
      rest_is = refl;
      some = omega arith;
      settled = ap (λ (r : Role). ends_its_group (Some r)) role;
    })

pub group_parts : (c : Codes) (start : Option StartNumbers) (file ldu : ℕ) (ack : Seen) (rest : List Seen)
    → form_of c ack.bus ack.word ≡ Some (Ack file ldu) → are_numbers (next_start (forms_of c rest)) file ldu ≡ false → (items b : List Seen)
    → AreInner c b → without_free c items ≡ b ++ ack ∷ rest → Parts c items (b ++ ack ∷ []) rest (words_to_go c start items)
group_parts c start file ldu ack rest a n [] b h e = absurd (no_middle b ack rest e)
group_parts c start file ldu ack rest a n (i ∷ items) b h e =
    by (is_free c i.bus i.word) refl e (group_parts c start file ldu ack rest a n items)
  where
    word : is_free c i.bus i.word ≡ false → (b : List Seen) → AreInner c b → i ∷ without_free c items ≡ b ++ ack ∷ rest
        → ((b : List Seen) → AreInner c b → without_free c items ≡ b ++ ack ∷ rest
        → Parts c items (b ++ ack ∷ []) rest (words_to_go c start items))
        → Parts c (i ∷ items) (b ++ ack ∷ []) rest (words_to_go c start (i ∷ items))
    word f [] h e more =
        let same : i ≡ ack = cc e in
        let left : without_free c items ≡ rest = cc e in
        let said : form_of c i.bus i.word ≡ Some (Ack file ldu) = ap (λ (x : Seen). form_of c x.bus x.word) same ∙ a in
        let next : are_numbers (next_start (forms_of c items)) file ldu ≡ false =
        ap (λ (o : Option StartNumbers). are_numbers o file ldu)
        (sym (next_start-thin c items) ∙ ap (λ (xs : List Seen). next_start (forms_of c xs)) left) ∙ n in
        let last = parts_last c start i items file ldu f said next in
        record {
          group_is = last.group_is ∙ ap (λ (x : Seen). x ∷ []) same;
          rest_is = last.rest_is ∙ left;
          some = last.some;
          settled = last.settled;
        }
    word f (x ∷ b) h e more =
        let same : x ≡ i = cc e in
        let left : without_free c items ≡ b ++ ack ∷ rest = cc e in
        let parts =
        parts_inner c start i items (b ++ ack ∷ []) rest f (subst (λ (y : Seen). IsInner (form_of c y.bus y.word)) same h.0)
        (more b h.1 left) in
        record {
          group_is = parts.group_is ∙ ap (λ (y : Seen). y ∷ (b ++ ack ∷ [])) (sym same);
          rest_is = parts.rest_is;
          some = parts.some;
          settled = parts.settled;
        }

    by : (t : Bool) → is_free c i.bus i.word ≡ t → cond t (without_free c items) (i ∷ without_free c items) ≡ b ++ ack ∷ rest
        → ((b : List Seen) → AreInner c b → without_free c items ≡ b ++ ack ∷ rest
        → Parts c items (b ++ ack ∷ []) rest (words_to_go c start items))
        → Parts c (i ∷ items) (b ++ ack ∷ []) rest (words_to_go c start (i ∷ items))
    by true f e more = parts_free c start i items (b ++ ack ∷ []) rest f (more b h e)
    by false f e more = word f b h e more

-- ---- the group of a link data unit

of_block_inner : (o : Option Form) → IsOfBlock o → IsInner o
of_block_inner (Some (Sot g f l)) h = tt
of_block_inner (Some (Part s)) h = tt
of_block_inner (Some (Eot f k)) h = tt
of_block_inner _ h = absurd h

words_inner : (c : Codes) (ws : List ℕ) → AreOfBlock c ws → AreInner c (map on_a ws)
words_inner c [] h = tt
words_inner c (w ∷ ws) h = (of_block_inner (form_of c bus.A w) h.0, words_inner c ws h.1)

-- what is recorded between the request and the acknowledgement
abbrev inner : Codes → UnitNumber → LduValue → List Seen
inner c place u = on_b (word_number c (Cts (count_of u))) ∷ map on_a (block_of c u place.file place.ldu)

are_inner : (p : Contents) (place : UnitNumber) (u : LduValue) → HasForms p place u → AreInner p.codes (inner p.codes place u)
are_inner p place u s =
    (subst IsInner (sym s.clear) tt, words_inner p.codes (block_of p.codes u place.file place.ldu) (block_has_forms p place u s))

-- the numbers of its start word
abbrev pub start_numbers : UnitNumber → StartNumbers
start_numbers place = record { file = place.file; ldu = place.ldu }

-- a recording that begins with it has its numbers in the first start word
pub first_start : (p : Contents) (place : UnitNumber) (u : LduValue) (rest : List Seen)
    → HasForms p place u → next_start (forms_of p.codes (clean_block p.codes place u ++ rest)) ≡ Some (start_numbers place)
first_start p place u rest s =
    let c = p.codes in
    let follows =
    forms_of c
    ((map on_a (u.words ++ word_number c (Eot u.flags u.check) ∷ []) ++ on_b (word_number c (Ack place.file place.ldu)) ∷ []) ++ rest) in
    ap (λ (o : Option Form).
    next_start (o
    ∷ (form_of c bus.B (word_number c (Cts (count_of u))) ∷ (form_of c bus.A (word_number c (Sot u.gfi place.file place.ldu)) ∷ follows))))
    s.request
    ∙ ap (λ (o : Option Form). next_start (o ∷ (form_of c bus.A (word_number c (Sot u.gfi place.file place.ldu)) ∷ follows))) s.clear
    ∙ ap (λ (o : Option Form). next_start (o ∷ follows)) s.start

-- those of a unit do that may be loaded under this number
pub unit_has_forms : (p : Contents) → IsProfile p → (place : UnitNumber) (u : LduValue) → place.file ≤ 255
    → place.ldu ≤ p.codes.first_ldu + 254 → IsLdu p u → HasForms p place u
unit_has_forms p is place u f l h = let low = (in_range p is).first_ldu in has_forms p is place u h f (omega arith)

-- the number that comes next is another
others_start : (c : Codes) (place : UnitNumber) (final : Bool)
    → place.ldu ≤ 255 → are_numbers (Some (start_numbers (next_number c place final))) place.file place.ldu ≡ false
others_start c place true l = rw (ne_eqb ((place.file + 1) % 256) place.file (λ e. omega arith)) refl
others_start c place false l = rw (eq-eqb place.file place.file refl) (ne_eqb (min (place.ldu + 1) 256) place.ldu (λ e. omega arith))

-- the next start word has other numbers
pub next_start_other : (p : Contents) → IsProfile p → (place : UnitNumber) (u : LduValue) (us : List LduValue) → place.file ≤ 255
    → place.ldu ≤ p.codes.first_ldu + 254 → AllFit p (number_after p.codes place u) us
    → are_numbers (next_start (forms_of p.codes (clean_blocks p.codes (number_after p.codes place u) us))) place.file place.ldu ≡ false
next_start_other p is place u [] f l h = refl
next_start_other p is place u (v ∷ us) f l h =
    let low = (in_range p is).first_ldu in
    let next = number_after p.codes place u in
    ap (λ (o : Option StartNumbers). are_numbers o place.file place.ldu)
    (first_start p next v (clean_blocks p.codes (number_after p.codes next v) us)
    (unit_has_forms p is next v (next_byte p.codes place _ f) h.1 h.0))
    ∙ others_start p.codes place _ (omega arith)

-- the start word of its attempt has its numbers
pub attempt_start_is : (p : Contents) (place : UnitNumber) (u : LduValue) (follows : List Seen) → HasForms p place u
    → attempt_start (forms_of p.codes
    (on_b (word_number p.codes (Cts (count_of u))) ∷ (map on_a (block_of p.codes u place.file place.ldu) ++ follows)))
    ≡ Some (start_numbers place)
attempt_start_is p place u follows s =
    let c = p.codes in
    let more = forms_of c (map on_a (u.words ++ word_number c (Eot u.flags u.check) ∷ []) ++ follows) in
    ap (λ (o : Option Form). attempt_start (o ∷ (form_of c bus.A (word_number c (Sot u.gfi place.file place.ldu)) ∷ more))) s.clear
    ∙ ap (λ (o : Option Form). attempt_start (o ∷ more)) s.start

-- the group of a link data unit that begins with this word
pub record UnitParts (c : Codes) (place : UnitNumber) (i : Seen) (items group rest : List Seen) : Type 0 where
  pub parts : Parts c (i ∷ items) group rest (group_length (roles (forms_of c (i ∷ items))))
  pub start : first_started (take (group_length (roles (forms_of c (i ∷ items)))) (roles (forms_of c (i ∷ items))))
      ≡ Some (start_numbers place)

pub unit_parts : (p : Contents) → IsProfile p → (place : UnitNumber) (u : LduValue) (us : List LduValue) (i : Seen) (items : List Seen)
    → place.file ≤ 255 → AllFit p place (u ∷ us) → is_free p.codes i.bus i.word ≡ false
    → without_free p.codes (i ∷ items) ≡ clean_blocks p.codes place (u ∷ us)
    → UnitParts p.codes place i items (clean_block p.codes place u) (clean_blocks p.codes (number_after p.codes place u) us)
unit_parts p is place u us i items f h kept e =
    let c = p.codes in
    let said = unit_has_forms p is place u f h.1 h.0 in
    let rest = clean_blocks c (number_after c place u) us in
    let rts = on_a (word_number c (Rts (count_of u))) in
    let ack = on_b (word_number c (Ack place.file place.ldu)) in
    let all : i ∷ without_free c items ≡ rts ∷ (inner c place u ++ ack ∷ rest) =
    sym (ap (λ (t : Bool). cond t (without_free c items) (i ∷ without_free c items)) kept) ∙ e
    ∙ ap (λ (xs : List Seen). rts ∷ xs) (append_assoc (inner c place u) (ack ∷ []) rest) in
    let same : i ≡ rts = cc all in
    let left : without_free c items ≡ inner c place u ++ ack ∷ rest = cc all in
    let begun : attempt_start (forms_of c items) ≡ Some (start_numbers place) = sym (attempt_start-thin c items)
    ∙ ap (λ (xs : List Seen). attempt_start (forms_of c xs)) left ∙ attempt_start_is p place u (ack ∷ rest) said in
    let role : role_of (form_of c i.bus i.word) (forms_of c items) ≡ Request (count_of u) (Some (start_numbers place)) =
    ap (λ (x : Seen). role_of (form_of c x.bus x.word) (forms_of c items)) same
    ∙ ap (λ (o : Option Form). role_of o (forms_of c items)) said.request
    ∙ ap (λ (o : Option StartNumbers). Request (count_of u) o) begun in
    let rs = roles (forms_of c items) in
    let long : group_length (roles (forms_of c (i ∷ items))) ≡ suc (words_to_go c (Some (start_numbers place)) items) =
    ap (λ (r : Role). group_length (r ∷ rs)) role in
    let parts =
    parts_next c i items (inner c place u ++ ack ∷ []) rest (words_to_go c (Some (start_numbers place)) items) kept
    (group_parts c (Some (start_numbers place)) place.file place.ldu ack rest said.settled
    (next_start_other p is place u us f h.1 h.2) items (inner c place u) (are_inner p place u said) left) in
    record {
      parts =
          subst (Parts c (i ∷ items) (clean_block c place u) rest) (sym long)
          (subst (λ (x : Seen). Parts c (i ∷ items) (x ∷ (inner c place u ++ ack ∷ [])) rest
          (suc (words_to_go c (Some (start_numbers place)) items))) same parts);
      start = ap (λ (n : ℕ). first_started (take n (roles (forms_of c (i ∷ items))))) long
          ∙ ap (λ (r : Role). first_started (r ∷ take (words_to_go c (Some (start_numbers place)) items) rs)) role;
    }

-- ---- the number of the first file

-- a recording without loss is one from the number in its first start word on
pub clean_from_first : (p : Contents) → IsProfile p → (first : ℕ) (us : List LduValue) (items : List Seen) → first ≤ 255
    → AllFit p (first_number p.codes first) us → without_free p.codes items ≡ clean_blocks p.codes (first_number p.codes first) us
    → without_free p.codes items ≡ clean_blocks p.codes (first_number p.codes (first_file_of (forms_of p.codes items))) us
clean_from_first p is first [] items f h e = e
clean_from_first p is first (u ∷ us) items f h e =
    let place = first_number p.codes first in
    let rest = clean_blocks p.codes (number_after p.codes place u) us in
    let start : next_start (forms_of p.codes items) ≡ Some (start_numbers place) = sym (next_start-thin p.codes items)
    ∙ ap (λ (xs : List Seen). next_start (forms_of p.codes xs)) e ∙ first_start p place u rest (unit_has_forms p is place u f h.1 h.0) in
    let same : first_file_of (forms_of p.codes items) ≡ first = ap file_of start in
    e ∙ ap (λ (n : ℕ). clean_blocks p.codes (first_number p.codes n) (u ∷ us)) (sym same)
