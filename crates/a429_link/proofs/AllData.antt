-- As many data words as were asked for are all those of a link data unit, and carry bytes.
use Rattle.std.proofs.Common.{◌≡◌, ◌⊎◌, ℕ, suc, ◌≤◌, List, [], ◌∷◌, ◌++◌, length, take, Option, Some, None, is_some, slice_get, refl, sym, ap, ◌∙◌, subst, inl, inr, arith, append-nil}
use Rattle.a429_word.specs.declared.bus.Bus.{Bus}
use Rattle.a429_word.specs.declared.bus.Bus.TheVariants as bus
use Rattle.a429_word.proofs.ListFacts.{next_item}
use Rattle.a429_profile.specs.Profile.{Contents, IsProfile}
use Rattle.a429_profile.specs.declared.codes.Codes.{Codes}
use Rattle.a429_ldu.specs.declared.forms.Form.{Form}
use Rattle.a429_ldu.specs.declared.forms.Form.TheVariants as form
use Rattle.a429_ldu.specs.Form.{form_of, word_number}
use Rattle.a429_ldu.specs.Ldu.{LduValue, IsLdu, block_of}
use Rattle.a429_ldu.specs.Carried.{bytes_carried}
use Rattle.a429_link.specs.declared.number.UnitNumber.{UnitNumber}
use Rattle.a429_link.specs.declared.seen.Seen.{Seen}
use Rattle.a429_link.specs.Attempt.{Attempt, IsAttemptAt, asks, attempts_from, fresh, goes_on_to, grown, latest, latest_from, under_way}
use Rattle.a429_link.specs.Assignment.{Assigned, GoOnAssigned, IsSound}
use Rattle.a429_link.specs.Run.{BeginsARun, IsSubsequenceOf}
use Rattle.a429_link.specs.WholeBlock.{AreHalf, IsHalfAt, IsHalfForm, IsHalfNext, data_first, data_words}
use Rattle.a429_link.proofs.AssignedSteps.{grown_count, open_assigned, some_attempts}
use Rattle.a429_link.proofs.Contradictions.{latest_push, on}
use Rattle.a429_link.proofs.Message.{AllParts, Eot, IsRead, Part, Sot, end_message, message_in}
use Rattle.a429_link.proofs.NumberKept.{sub_all}
use Rattle.a429_link.proofs.RunAssigned.{run_assignable}

-- ---- data words

pub data-append : (c : Codes) (xs ys : List ℕ) → data_words c (xs ++ ys) ≡ data_words c xs ++ data_words c ys
data-append c [] ys = refl
data-append c (x ∷ xs) ys = by (form_of c bus.A x) (data-append c xs ys)
  where
    by : (o : Option Form) → data_words c (xs ++ ys) ≡ data_words c xs ++ data_words c ys
        → data_first x o (data_words c (xs ++ ys)) ≡ data_first x o (data_words c xs) ++ data_words c ys
    by (Some (form.Part s)) e = ap (λ (l : List ℕ). x ∷ l) e
    by _ e = e

-- of some of the words, in order, the data words are some of theirs
pub sub_data : (c : Codes) (xs ys : List ℕ) → IsSubsequenceOf xs ys → IsSubsequenceOf (data_words c xs) (data_words c ys)
sub_data c xs [] h = ap (data_words c) h
sub_data c xs (y ∷ ys) (inl h) = by (form_of c bus.A y) (sub_data c xs ys h)
  where
    by : (o : Option Form)
        → IsSubsequenceOf (data_words c xs) (data_words c ys) → IsSubsequenceOf (data_words c xs) (data_first y o (data_words c ys))
    by (Some (form.Part s)) h = inl h
    by _ h = h
sub_data c xs (y ∷ ys) (inr (zs, e, h)) =
    subst (λ (l : List ℕ). IsSubsequenceOf (data_words c l) (data_words c (y ∷ ys))) (sym e) (by (form_of c bus.A y) (sub_data c zs ys h))
  where
    by : (o : Option Form) → IsSubsequenceOf (data_words c zs) (data_words c ys)
        → IsSubsequenceOf (data_first y o (data_words c zs)) (data_first y o (data_words c ys))
    by (Some (form.Part s)) h = inr (data_words c zs, refl, h)
    by _ h = h

-- a data word, a start word, an end word
first_part : (w : ℕ) (o : Option Form) (rest : List ℕ) → message_in w o ≡ Some (Part w) → data_first w o rest ≡ w ∷ rest
first_part w (Some (form.Part s)) rest e = refl
first_part w _ rest e = absurd (cc e)

first_start : (w g f l : ℕ) (o : Option Form) (rest : List ℕ) → message_in w o ≡ Some (Sot g f l) → data_first w o rest ≡ rest
first_start w g f l (Some (form.Sot a b c)) rest e = refl
first_start w g f l _ rest e = absurd (cc e)

first_end : (w f c : ℕ) (o : Option Form) (rest : List ℕ) → message_in w o ≡ Some (Eot f c) → data_first w o rest ≡ rest
first_end w f c (Some (form.Eot a b)) rest e = refl
first_end w f c _ rest e = absurd (cc e)

data_parts : (p : Contents) (ws : List ℕ) → AllParts p ws → data_words p.codes ws ≡ ws
data_parts p [] h = refl
data_parts p (w ∷ ws) h =
    first_part w (form_of p.codes bus.A w) (data_words p.codes ws) h.0 ∙ ap (λ (l : List ℕ). w ∷ l) (data_parts p ws h.1)

-- those of a block are those of its link data unit
pub data_block : (p : Contents) → IsRead p → (u : LduValue) (n : UnitNumber) → IsLdu p u → n.file ≤ 255 → n.ldu ≤ 255
    → data_words p.codes (block_of p.codes u n.file n.ldu) ≡ u.words
data_block p good u n is file ldu =
    let f = good.fit u is in
    let s = word_number p.codes (form.Sot u.gfi n.file n.ldu) in
    let e = word_number p.codes (form.Eot u.flags u.check) in
    first_start s u.gfi n.file n.ldu (form_of p.codes bus.A s) (data_words p.codes (u.words ++ e ∷ []))
    (good.reads bus.A (Sot u.gfi n.file n.ldu) (f.gfi, file, ldu))
    ∙ data-append p.codes u.words (e ∷ [])
    ∙ ap (λ (l : List ℕ). data_words p.codes u.words ++ l)
    (first_end e u.flags u.check (form_of p.codes bus.A e) [] (good.reads bus.A (end_message u) (f.flags, f.check)))
    ∙ append-nil (data_words p.codes u.words)
    ∙ data_parts p u.words f.parts

-- ---- the link data unit of the latest attempt

record Sends (p : Contents) (a : Attempt) : Type 0 where
  as_unit : Assigned
  sound : IsSound p as_unit
  is : IsAttemptAt p as_unit.number as_unit.unit a

abbrev IsSoundIf : Contents → Option Assigned → Type 0
IsSoundIf p None = Unit {0}
IsSoundIf p (Some t) = IsSound p t

-- from an attempt that is assigned so, to the latest one: before the first request nothing is asked for
abbrev SendsAfter : Contents → Option Assigned → Attempt → Attempt → Type 0
SendsAfter p None a b = Sends p b ⊎ (b.count ≡ a.count)
SendsAfter p (Some t) a b = Sends p b

sends_now : (p : Contents) (now : Option Assigned) (a b : Attempt) → Sends p b → SendsAfter p now a b
sends_now p None a b h = inl h
sends_now p (Some t) a b h = h

sends_grown : (p : Contents) (now : Option Assigned) (a c b : Attempt) → c.count ≡ a.count → SendsAfter p now c b → SendsAfter p now a b
sends_grown p None a c b e (inl h) = inl h
sends_grown p None a c b e (inr h) = inr (h ∙ e)
sends_grown p (Some t) a c b e h = h

last_sends : (p : Contents) (now : Option Assigned) (a : Attempt) (items : List Seen) (units : List Assigned)
    → IsSoundIf p now → GoOnAssigned p now (attempts_from p a items) units → SendsAfter p now a (latest_from p a items)
last_sends p None a [] units s h = inr refl
last_sends p (Some t) a [] units s h = record { as_unit = t; sound = s; is = h.0.0 }
last_sends p now a (i ∷ items) units s h = by (asks i.bus (form_of p.codes i.bus i.word)) (λ o c us k g. last_sends p o c items us k g) h
  where
    next : Attempt
    next = grown i.bus i.word (form_of p.codes i.bus i.word) a

    by : (o : Option ℕ)
        → ((t : Option Assigned) (c : Attempt) (us : List Assigned) → IsSoundIf p t → GoOnAssigned p t (attempts_from p c items) us
        → SendsAfter p t c (latest_from p c items))
        → GoOnAssigned p now (goes_on_to i (form_of p.codes i.bus i.word) a o (λ b. attempts_from p b items)) units
        → SendsAfter p now a (latest_from p (under_way o next) items)
    by None rec h =
        sends_grown p now a next (latest_from p next items) (grown_count i.bus i.word (form_of p.codes i.bus i.word) a)
        (rec now next units s h)
    by (Some n) rec h =
        let o = open_assigned p now (is_some a.acked) (attempts_from p (fresh n) items) units (some_attempts p (fresh n) items) h.1 in
        sends_now p now a (latest_from p (fresh n) items) (rec (Some o.assigned_as) (fresh n) o.more o.sound o.goes)

-- ---- all data words

all_carry : (p : Contents) → IsProfile p → IsRead p → (words : List ℕ) (a : Attempt) → data_words p.codes a.words ≡ words → Sends p a
    → AreHalf p.codes words a.count → ⊥
all_carry p sound good words a same s half =
    let t = s.as_unit in
    let low = good.first in
    let high = s.sound.ldu in
    let ldu : t.number.ldu ≤ 255 = omega arith in
    let asked = s.is.asked in
    let asked_too = half.0 in
    let of_block = sub_data p.codes a.words (block_of p.codes t.unit t.number.file t.number.ldu) s.is.words in
    let of_unit =
    subst (λ (l : List ℕ). IsSubsequenceOf l t.unit.words) same
    (subst (IsSubsequenceOf (data_words p.codes a.words)) (data_block p good t.unit t.number s.sound.unit s.sound.file ldu) of_block) in
    let count : length words ≡ length t.unit.words = omega arith in
    let all = sub_all words t.unit.words count of_unit in
    let some = s.sound.unit.carries in
    let none : bytes_carried p.codes t.unit.words ≡ None = subst (λ (l : List ℕ). bytes_carried p.codes l ≡ None) all half.1 in
    cc (some, none)

no_half_form : (p : Contents) → IsProfile p → IsRead p → (items : List Seen) (b : Bus) (w : ℕ) (x : Option Form) (a : Attempt)
    → form_of p.codes b w ≡ x → latest p (items ++ on b w ∷ []) ≡ under_way (asks b x) (grown b w x a) → BeginsARun p (items ++ on b w ∷ [])
    → IsHalfForm p.codes b w x a → ⊥
no_half_form p sound good items bus.A w (Some (form.Part s)) a q e run half =
    let r = run_assignable p good (items ++ on bus.A w ∷ []) run in
    by (last_sends p None (fresh 0) (items ++ on bus.A w ∷ []) r.units tt r.are)
  where
    words : List ℕ
    words = data_words p.codes a.words ++ w ∷ []

    same : data_words p.codes (a.words ++ w ∷ []) ≡ words
    same = data-append p.codes a.words (w ∷ []) ∙ ap (λ o. data_words p.codes a.words ++ data_first w o []) q

    by : SendsAfter p None (fresh 0) (latest p (items ++ on bus.A w ∷ [])) → ⊥
    by (inl h) = all_carry p sound good words (record a { words = a.words ++ w ∷ [] }) same (subst (Sends p) e h) half
    by (inr h) = let none : a.count ≡ 0 = sym (ap (λ (b : Attempt). b.count) e) ∙ h in let asked = half.0 in omega arith
no_half_form p sound good items _ w _ a q e run half = absurd half

no_half_next : (p : Contents) → IsProfile p → IsRead p → (items : List Seen) (i : ℕ) (o : Option Seen) → slice_get items i ≡ o
    → IsHalfNext p (latest p (take i items)) o → BeginsARun p (take (suc i) items) → ⊥
no_half_next p sound good items i None e half run = half
no_half_next p sound good items i (Some x) e half run =
    no_half_form p sound good (take i items) x.bus x.word (form_of p.codes x.bus x.word) (latest p (take i items)) refl
    (latest_push p (take i items) x) (subst (BeginsARun p) (next_item i x items e) run) half

-- no run records all data words of a block that carry no bytes
pub no_half : (p : Contents)
    → IsProfile p → IsRead p → (items : List Seen) (i : ℕ) → IsHalfAt p items i → BeginsARun p (take (suc i) items) → ⊥
no_half p sound good items i half run = no_half_next p sound good items i (slice_get items i) refl half run
