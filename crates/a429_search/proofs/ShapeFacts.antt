-- What an attempt may have recorded: words that the observer allows are the start word of a block, data words of it and its end word, some
-- of them lost; and a number is acknowledged only after its start word.
use Rattle.std.proofs.Common.{◌≡◌, ◌==◌, ◌&&◌, ◌⊎◌, ◌+◌, ℕ, Bool, true, false, cond, List, [], ◌∷◌, ◌++◌, length, Option, Some, None, IfSome, is_some, eqb-true, refl, sym, ap, ◌∙◌, subst, inl, inr, append-nil}
use Rattle.a429_word.specs.declared.bus.Bus.{Bus}
use Rattle.a429_word.specs.declared.bus.Bus.TheVariants as bus
use Rattle.a429_profile.specs.Profile.{Contents, IsProfile}
use Rattle.a429_ldu.specs.declared.forms.Form.{Form}
use Rattle.a429_ldu.specs.declared.forms.Form.TheVariants as form
use Rattle.a429_ldu.specs.Form.{form_of, word_number}
use Rattle.a429_ldu.specs.Ldu.{LduValue, block_of}
use Rattle.a429_ldu.proofs.FormFacts.{form_of-is, one_word, word_number-is}
use Rattle.a429_link.specs.declared.number.UnitNumber.{UnitNumber}
use Rattle.a429_link.specs.declared.seen.Seen.{Seen}
use Rattle.a429_link.specs.Assignment.{Assigned, IsAckedAs, IsOf}
use Rattle.a429_link.specs.Attempt.{Attempt, asks, fresh, grown, latest, latest_from, under_way}
use Rattle.a429_link.specs.Observer.{Allows, AllowsForm, AreAllowed, Observer, at_first, observed, sees, sees_form}
use Rattle.a429_link.specs.Run.{IsSubsequenceOf}
use Rattle.a429_link.specs.Sink.{Block, Granted, InBlock, Number, OwesAck, OwesClear, OwesNak, Quiet, Sink, SinkPhase, is_good, is_same, number_of}
use Rattle.a429_link.specs.WholeBlock.{data_first, data_words}
use Rattle.a429_link.proofs.AllData.{data-append}
use Rattle.a429_link.proofs.Message.{IsRead}
use Rattle.a429_link.proofs.MessageRead.{is_read}
use Rattle.a429_link.proofs.Subsequence.{sub_lost, sub_none, sub_push}
use Rattle.a429_search.specs.declared.attempts.Attempt as kept
use Rattle.a429_search.specs.declared.attempts.StartWord.{StartWord}
use Rattle.a429_merge.specs.declared.pieces.EndWord.{EndWord}
use Rattle.a429_search.specs.Recorded.{IsRecorded, IsWholeIfHeard, MayBeTo, end_by, end_from, start_by, start_from}
use Rattle.a429_search.proofs.RecordedFacts.{end_push, start_push}

-- ---- words of a block

abbrev IsPart : Contents → ℕ → Type 0
IsPart p w = (s : List ℕ) × (form_of p.codes bus.A w ≡ Some (form.Part s))

record IsStart (p : Contents) (w : ℕ) : Type 0 where
  gfi : ℕ
  file : ℕ
  ldu : ℕ
  says : form_of p.codes bus.A w ≡ Some (form.Sot gfi file ldu)

record IsEnd (p : Contents) (w : ℕ) : Type 0 where
  flags : ℕ
  check : ℕ
  says : form_of p.codes bus.A w ≡ Some (form.Eot flags check)

abbrev AreParts : Contents → List ℕ → Type 0
AreParts p [] = Unit {0}
AreParts p (w ∷ ws) = IsPart p w × AreParts p ws

-- a start word or none, and data words
abbrev IsFront : Contents → List ℕ → Type 0
IsFront p [] = Unit {0}
IsFront p (w ∷ ws) = (IsStart p w ⊎ IsPart p w) × AreParts p ws

abbrev IsEnding : Contents → List ℕ → Type 0
IsEnding p [] = Unit {0}
IsEnding p (w ∷ []) = IsEnd p w
IsEnding p _ = ⊥

record IsShaped (p : Contents) (words : List ℕ) : Type 0 where
  front : List ℕ
  end : List ℕ
  is : words ≡ front ++ end
  fronts : IsFront p front
  ends : IsEnding p end

-- the start word has this number
record HasStart (p : Contents) (n : UnitNumber) (words : List ℕ) : Type 0 where
  start : StartWord
  is : start_from p.codes None words ≡ Some start
  number : start.number ≡ n

-- ---- one more word

parts_push : (p : Contents) (ws : List ℕ) (w : ℕ) → AreParts p ws → IsPart p w → AreParts p (ws ++ w ∷ [])
parts_push p [] w h i = (i, tt)
parts_push p (v ∷ ws) w h i = (h.0, parts_push p ws w h.1 i)

front_push : (p : Contents) (ws : List ℕ) (w : ℕ) → IsFront p ws → IsPart p w → IsFront p (ws ++ w ∷ [])
front_push p [] w h i = (inr i, tt)
front_push p (v ∷ ws) w h i = (h.0, parts_push p ws w h.1 i)

shaped_front : (p : Contents) (ws : List ℕ) → IsFront p ws → IsShaped p ws
shaped_front p ws h = record { front = ws; end = []; is = sym (append-nil ws); fronts = h; ends = tt }

shaped_end : (p : Contents) (ws : List ℕ) (w : ℕ) → IsFront p ws → IsEnd p w → IsShaped p (ws ++ w ∷ [])
shaped_end p ws w h i = record { front = ws; end = w ∷ []; is = refl; fronts = h; ends = i }

-- a word that is no start word leaves the start word
abbrev LeavesStart : Option Form → Type 0
LeavesStart x = (s : Option StartWord) → start_by x s ≡ s

start_kept : (p : Contents) (n : UnitNumber) (ws : List ℕ) (w : ℕ) (x : Option Form)
    → form_of p.codes bus.A w ≡ x → LeavesStart x → HasStart p n ws → HasStart p n (ws ++ w ∷ [])
start_kept p n ws w x e leaves h = record {
  start = h.start;
  is = start_push p.codes None ws w ∙ ap (λ (o : Option Form). start_by o (start_from p.codes None ws)) e
      ∙ leaves (start_from p.codes None ws) ∙ h.is;
  number = h.number;
}

-- ---- along the words

-- what the attempt has recorded, by what the sink does
abbrev Shape : Contents → Bool → SinkPhase → Attempt → Type 0
Shape p begun Quiet a = IsShaped p a.words × IfSome a.acked (λ n. HasStart p n a.words)
Shape p begun OwesClear a = (a.words ≡ []) × (a.acked ≡ None)
Shape p begun Granted a = IsFront p a.words × (begun ≡ false → a.words ≡ []) × (a.acked ≡ None)
Shape p begun (InBlock b) a = IsFront p a.words × (begun ≡ true) × HasStart p (number_of b) a.words × (a.acked ≡ None)
Shape p begun (OwesAck b flags) a = IsShaped p a.words × HasStart p (number_of b) a.words × (a.acked ≡ None)
Shape p begun OwesNak a = IsShaped p a.words × (a.acked ≡ None)

abbrev ShapeOf : Contents → Observer → Attempt → Type 0
ShapeOf p o a = Shape p o.begun o.phase a

-- the end word of a block that is good or not
ended : (p : Contents) (good begun : Bool) (b : Block) (flags : ℕ) (a : Attempt)
    → IsShaped p a.words → HasStart p (number_of b) a.words → a.acked ≡ None → Shape p begun (cond good (OwesAck b flags) OwesNak) a
ended p true begun b flags a h s n = (h, s, n)
ended p false begun b flags a h s n = (h, n)

-- a word without form
quiet_shape : (p : Contents) (b : Bus) (w : ℕ) (o : Observer) (a : Attempt)
    → ShapeOf p o a → ShapeOf p (sees_form p b w None o) (under_way (asks b None) (grown b w None a))
quiet_shape p bus.A w o a h = h
quiet_shape p bus.B w o a h = h

-- an allowed one of some form
next_shape : (p : Contents) (b : Bus) (w : ℕ) (x : Form) (last : Option Number) (count parts : ℕ) (begun : Bool) (phase : SinkPhase)
    (a : Attempt)
    → form_of p.codes b w ≡ Some x
    → AllowsForm (record { last = last; count = count; phase = phase; begun = begun; parts = parts }) b (Some x)
    → Shape p begun phase a
    → ShapeOf p (sees_form p b w (Some x) (record { last = last; count = count; phase = phase; begun = begun; parts = parts }))
    (under_way (asks b (Some x)) (grown b w (Some x) a))
next_shape p bus.A w (form.Rts n) last count parts begun phase a e h s = (refl, refl)
next_shape p bus.A w (form.Sot g f l) last count parts begun Granted a e h s =
    let none = s.1 h.1 in (
      subst (λ (ws : List ℕ). IsFront p (ws ++ w ∷ [])) (sym none) (inl (record { gfi = g; file = f; ldu = l; says = e }), tt),
      refl,
      record {
        start = record { gfi = g; number = record { file = f; ldu = l } };
        is = ap (λ (ws : List ℕ). start_from p.codes None (ws ++ w ∷ [])) none ∙ ap (λ (o : Option Form). start_by o None) e;
        number = refl;
      },
      s.2,
    )
next_shape p bus.A w (form.Sot g f l) last count parts begun (InBlock b) a e h s = let off = h.1 in let on = s.1 in absurd (cc (off, on))
next_shape p bus.A w (form.Sot g f l) last count parts begun Quiet a e h s = absurd h.0
next_shape p bus.A w (form.Sot g f l) last count parts begun OwesClear a e h s = absurd h.0
next_shape p bus.A w (form.Sot g f l) last count parts begun (OwesAck b flags) a e h s = absurd h.0
next_shape p bus.A w (form.Sot g f l) last count parts begun OwesNak a e h s = absurd h.0
next_shape p bus.A w (form.Part q) last count parts begun Granted a e h s =
    (front_push p a.words w s.0 (q, e), (λ off. absurd (cc off)), s.2)
next_shape p bus.A w (form.Part q) last count parts begun (InBlock b) a e h s =
    (front_push p a.words w s.0 (q, e), refl, start_kept p (number_of b) a.words w (Some (form.Part q)) e (λ o. refl) s.2, s.3)
next_shape p bus.A w (form.Part q) last count parts begun Quiet a e h s = absurd h.0
next_shape p bus.A w (form.Part q) last count parts begun OwesClear a e h s = absurd h.0
next_shape p bus.A w (form.Part q) last count parts begun (OwesAck b flags) a e h s = absurd h.0
next_shape p bus.A w (form.Part q) last count parts begun OwesNak a e h s = absurd h.0
next_shape p bus.A w (form.Eot f k) last count parts begun Granted a e h s =
    (shaped_end p a.words w s.0 (record { flags = f; check = k; says = e }), s.2)
next_shape p bus.A w (form.Eot f k) last count parts begun (InBlock b) a e h s =
    ended p (is_good p last count b k) begun b f (record a { words = a.words ++ w ∷ [] })
    (shaped_end p a.words w s.0 (record { flags = f; check = k; says = e }))
    (start_kept p (number_of b) a.words w (Some (form.Eot f k)) e (λ o. refl) s.2) s.3
next_shape p bus.A w (form.Eot f k) last count parts begun Quiet a e h s = absurd h
next_shape p bus.A w (form.Eot f k) last count parts begun OwesClear a e h s = absurd h
next_shape p bus.A w (form.Eot f k) last count parts begun (OwesAck b flags) a e h s = absurd h
next_shape p bus.A w (form.Eot f k) last count parts begun OwesNak a e h s = absurd h
next_shape p bus.A w (form.Cts n) last count parts begun phase a e h s = absurd h
next_shape p bus.A w (form.Ack f l) last count parts begun phase a e h s = absurd h
next_shape p bus.A w (form.Nak n) last count parts begun phase a e h s = absurd h
next_shape p bus.B w (form.Cts n) last count parts begun OwesClear a e h s = (tt, (λ off. refl), s.1)
next_shape p bus.B w (form.Ack f l) last count parts begun (OwesAck b flags) a e h s = (
  s.0,
  subst (λ (n : UnitNumber). HasStart p n a.words)
      (ap (λ (k : ℕ). record { file = k; ldu = b.ldu }) (sym h.0) ∙ ap (λ (k : ℕ). record { file = f; ldu = k }) (sym h.1)) s.1,
)
next_shape p bus.B w (form.Nak n) last count parts begun (OwesAck b flags) a e h s =
    (s.0, subst (λ (o : Option UnitNumber). IfSome o (λ n. HasStart p n a.words)) (sym s.2) tt)
next_shape p bus.B w (form.Nak n) last count parts begun OwesNak a e h s =
    (s.0, subst (λ (o : Option UnitNumber). IfSome o (λ n. HasStart p n a.words)) (sym s.1) tt)
next_shape p bus.B w x last count parts begun Quiet a e h s = absurd h
next_shape p bus.B w x last count parts begun OwesClear a e h s = absurd h
next_shape p bus.B w x last count parts begun Granted a e h s = absurd h
next_shape p bus.B w x last count parts begun (InBlock b) a e h s = absurd h
next_shape p bus.B w x last count parts begun (OwesAck b flags) a e h s = absurd h
next_shape p bus.B w x last count parts begun OwesNak a e h s = absurd h

item_shape : (p : Contents) → IsRead p → (i : Seen) (o : Observer) (a : Attempt) → Allows p o i → ShapeOf p o a
    → ShapeOf p (sees p i o) (under_way (asks i.bus (form_of p.codes i.bus i.word)) (grown i.bus i.word (form_of p.codes i.bus i.word) a))
item_shape p good i o a allows s = by (form_of p.codes i.bus i.word) refl allows
  where
    by : (x : Option Form) → form_of p.codes i.bus i.word ≡ x → Allows p o i
        → ShapeOf p (sees_form p i.bus i.word x o) (under_way (asks i.bus x) (grown i.bus i.word x a))
    by None e h = quiet_shape p i.bus i.word o a s
    by (Some x) e (inl free) = let none = good.free i.bus i.word free in absurd (cc (e, none))
    by (Some x) e (inr h) = next_shape p i.bus i.word x o.last o.count o.parts o.begun o.phase a e (subst (AllowsForm o i.bus) e h) s

shape_from : (p : Contents) → IsRead p → (items : List Seen) (o : Observer) (a : Attempt) → AreAllowed p o items → ShapeOf p o a
    → ShapeOf p (observed p items o) (latest_from p a items)
shape_from p good [] o a h s = s
shape_from p good (i ∷ items) o a h s =
    shape_from p good items (sees p i o)
    (under_way (asks i.bus (form_of p.codes i.bus i.word)) (grown i.bus i.word (form_of p.codes i.bus i.word) a)) h.1
    (item_shape p good i o a h.0 s)

-- what the last attempt of allowed words has recorded
record IsFormed (p : Contents) (a : Attempt) : Type 0 where
  shaped : IsShaped p a.words
  acked : IfSome a.acked (λ n. HasStart p n a.words)

formed : (p : Contents) (begun : Bool) (phase : SinkPhase) (a : Attempt) → Shape p begun phase a → IsFormed p a
formed p begun phase a s = record { shaped = shaped phase s; acked = acked phase s }
  where
    none : a.acked ≡ None → IfSome a.acked (λ n. HasStart p n a.words)
    none e = subst (λ (o : Option UnitNumber). IfSome o (λ n. HasStart p n a.words)) (sym e) tt

    shaped : (k : SinkPhase) → Shape p begun k a → IsShaped p a.words
    shaped Quiet s = s.0
    shaped OwesClear s = subst (IsShaped p) (sym s.0) (shaped_front p [] tt)
    shaped Granted s = shaped_front p a.words s.0
    shaped (InBlock b) s = shaped_front p a.words s.0
    shaped (OwesAck b f) s = s.0
    shaped OwesNak s = s.0

    acked : (k : SinkPhase) → Shape p begun k a → IfSome a.acked (λ n. HasStart p n a.words)
    acked Quiet s = s.1
    acked OwesClear s = none s.1
    acked Granted s = none s.2
    acked (InBlock b) s = none s.3
    acked (OwesAck b f) s = none s.2
    acked OwesNak s = none s.1

latest_formed : (p : Contents) → IsRead p → (items : List Seen) → AreAllowed p at_first items → IsFormed p (latest p items)
latest_formed p good items h =
    let o = observed p items at_first in
    formed p o.begun o.phase (latest p items) (shape_from p good items at_first (fresh 0) h (shaped_front p [] tt, tt))

-- ---- an attempt that was acknowledged is whole

-- the start word, the end word and all data words were recorded
record IsAll (p : Contents) (a : Attempt) : Type 0 where
  start : is_some (start_from p.codes None a.words) ≡ true
  end : is_some (end_from p.codes None a.words) ≡ true
  words : length (data_words p.codes a.words) + 2 ≡ a.count

-- by what the sink does
abbrev Kept : Contents → SinkPhase → Attempt → Type 0
Kept p Quiet a = is_some a.acked ≡ true → IsAll p a
Kept p (InBlock b) a = (data_words p.codes a.words ≡ b.words) × (a.acked ≡ None)
Kept p (OwesAck b flags) a = IsAll p a × (a.acked ≡ None)
Kept p OwesClear a = a.acked ≡ None
Kept p Granted a = a.acked ≡ None
Kept p OwesNak a = a.acked ≡ None

abbrev KeptOf : Contents → Observer → Attempt → Type 0
KeptOf p o a = (a.count ≡ o.count) × Kept p o.phase a

data_push : (p : Contents) (ws : List ℕ) (w : ℕ) (x : Option Form)
    → form_of p.codes bus.A w ≡ x → data_words p.codes (ws ++ w ∷ []) ≡ data_words p.codes ws ++ data_first w x []
data_push p ws w x e = data-append p.codes ws (w ∷ []) ∙ ap (λ (o : Option Form). data_words p.codes ws ++ data_first w o []) e

-- the data words of a good block are as many as were asked for
many_of : (p : Contents) (last : Option Number) (count : ℕ) (b : Block) (check : ℕ)
    → is_good p last count b check ≡ true → length b.words + 2 ≡ count
many_of p last count b check good = eqb-true (length b.words + 2) count (first_is (length b.words + 2 == count) _ good)
  where
    first_is : (x y : Bool) → (x && y) ≡ true → x ≡ true
    first_is true y e = refl
    first_is false y e = absurd (cc e)

good_kept : (p : Contents) (good : Bool) (b : Block) (flags : ℕ) (a : Attempt)
    → (good ≡ true → IsAll p a) → a.acked ≡ None → Kept p (cond good (OwesAck b flags) OwesNak) a
good_kept p true b flags a all none = (all refl, none)
good_kept p false b flags a all none = none

-- an acknowledgement leaves the count
count_of_either : (s : Bool) (x y : Sink) (n : ℕ) → x.count ≡ n → y.count ≡ n → (cond s x y).count ≡ n
count_of_either true x y n e f = e
count_of_either false x y n e f = f

not_acked : {X : Type 0} (o : Option UnitNumber) → o ≡ None → is_some o ≡ true → X
not_acked o none is = absurd (cc (none, is))

quiet_kept : (p : Contents) (b : Bus) (w : ℕ) (o : Observer) (a : Attempt)
    → KeptOf p o a → KeptOf p (sees_form p b w None o) (under_way (asks b None) (grown b w None a))
quiet_kept p bus.A w o a k = k
quiet_kept p bus.B w o a k = k

next_kept : (p : Contents) (b : Bus) (w : ℕ) (x : Form) (last : Option Number) (count parts : ℕ) (begun : Bool) (phase : SinkPhase)
    (a : Attempt)
    → form_of p.codes b w ≡ Some x
    → AllowsForm (record { last = last; count = count; phase = phase; begun = begun; parts = parts }) b (Some x)
    → Shape p begun phase a → a.count ≡ count → Kept p phase a
    → KeptOf p (sees_form p b w (Some x) (record { last = last; count = count; phase = phase; begun = begun; parts = parts }))
    (under_way (asks b (Some x)) (grown b w (Some x) a))
next_kept p bus.A w (form.Rts n) last count parts begun phase a e h s m k = (refl, refl)
next_kept p bus.A w (form.Sot g f l) last count parts begun Granted a e h s m k =
    (m, (ap (λ (ws : List ℕ). data_words p.codes (ws ++ w ∷ [])) (s.1 h.1) ∙ ap (λ (o : Option Form). data_first w o []) e, s.2))
next_kept p bus.A w (form.Sot g f l) last count parts begun (InBlock b) a e h s m k =
    let off = h.1 in let on = s.1 in absurd (cc (off, on))
next_kept p bus.A w (form.Sot g f l) last count parts begun Quiet a e h s m k = absurd h.0
next_kept p bus.A w (form.Sot g f l) last count parts begun OwesClear a e h s m k = absurd h.0
next_kept p bus.A w (form.Sot g f l) last count parts begun (OwesAck b flags) a e h s m k = absurd h.0
next_kept p bus.A w (form.Sot g f l) last count parts begun OwesNak a e h s m k = absurd h.0
next_kept p bus.A w (form.Part q) last count parts begun Granted a e h s m k = (m, k)
next_kept p bus.A w (form.Part q) last count parts begun (InBlock b) a e h s m k =
    (m, (data_push p a.words w (Some (form.Part q)) e ∙ ap (λ (l : List ℕ). l ++ w ∷ []) k.0, k.1))
next_kept p bus.A w (form.Part q) last count parts begun Quiet a e h s m k = absurd h.0
next_kept p bus.A w (form.Part q) last count parts begun OwesClear a e h s m k = absurd h.0
next_kept p bus.A w (form.Part q) last count parts begun (OwesAck b flags) a e h s m k = absurd h.0
next_kept p bus.A w (form.Part q) last count parts begun OwesNak a e h s m k = absurd h.0
next_kept p bus.A w (form.Eot f c) last count parts begun Granted a e h s m k = (m, k)
next_kept p bus.A w (form.Eot f c) last count parts begun (InBlock b) a e h s m k =
    let start = start_kept p (number_of b) a.words w (Some (form.Eot f c)) e (λ o. refl) s.2 in (
      m,
      good_kept p (is_good p last count b c) b f (record a { words = a.words ++ w ∷ [] })
          (λ good. record {
            start = ap is_some start.is;
            end =
                ap is_some (end_push p.codes None a.words w
                ∙ ap (λ (o : Option Form). end_by o (end_from p.codes None a.words)) e);
            words =
                ap (λ (l : List ℕ). length l + 2)
                (data_push p a.words w (Some (form.Eot f c)) e ∙ append-nil (data_words p.codes a.words) ∙ k.0)
                ∙ many_of p last count b c good ∙ sym m;
          }) k.1,
    )
next_kept p bus.A w (form.Eot f c) last count parts begun Quiet a e h s m k = absurd h
next_kept p bus.A w (form.Eot f c) last count parts begun OwesClear a e h s m k = absurd h
next_kept p bus.A w (form.Eot f c) last count parts begun (OwesAck b flags) a e h s m k = absurd h
next_kept p bus.A w (form.Eot f c) last count parts begun OwesNak a e h s m k = absurd h
next_kept p bus.A w (form.Cts n) last count parts begun phase a e h s m k = absurd h
next_kept p bus.A w (form.Ack f l) last count parts begun phase a e h s m k = absurd h
next_kept p bus.A w (form.Nak n) last count parts begun phase a e h s m k = absurd h
next_kept p bus.B w (form.Cts n) last count parts begun OwesClear a e h s m k = (m, k)
next_kept p bus.B w (form.Ack f l) last count parts begun (OwesAck b flags) a e h s m k = (
  m ∙ sym (count_of_either (is_same last (number_of b)) _ _ count refl refl),
  λ _. record { start = k.0.start; end = k.0.end; words = k.0.words },
)
next_kept p bus.B w (form.Nak n) last count parts begun (OwesAck b flags) a e h s m k = (m, not_acked a.acked k.1)
next_kept p bus.B w (form.Nak n) last count parts begun OwesNak a e h s m k = (m, not_acked a.acked k)
next_kept p bus.B w x last count parts begun Quiet a e h s m k = absurd h
next_kept p bus.B w x last count parts begun OwesClear a e h s m k = absurd h
next_kept p bus.B w x last count parts begun Granted a e h s m k = absurd h
next_kept p bus.B w x last count parts begun (InBlock b) a e h s m k = absurd h
next_kept p bus.B w x last count parts begun (OwesAck b flags) a e h s m k = absurd h
next_kept p bus.B w x last count parts begun OwesNak a e h s m k = absurd h

item_kept : (p : Contents) → IsRead p → (i : Seen) (o : Observer) (a : Attempt) → Allows p o i → ShapeOf p o a → KeptOf p o a
    → KeptOf p (sees p i o) (under_way (asks i.bus (form_of p.codes i.bus i.word)) (grown i.bus i.word (form_of p.codes i.bus i.word) a))
item_kept p good i o a allows s k = by (form_of p.codes i.bus i.word) refl allows
  where
    by : (x : Option Form) → form_of p.codes i.bus i.word ≡ x → Allows p o i
        → KeptOf p (sees_form p i.bus i.word x o) (under_way (asks i.bus x) (grown i.bus i.word x a))
    by None e h = quiet_kept p i.bus i.word o a k
    by (Some x) e (inl free) = let none = good.free i.bus i.word free in absurd (cc (e, none))
    by (Some x) e (inr h) =
        next_kept p i.bus i.word x o.last o.count o.parts o.begun o.phase a e (subst (AllowsForm o i.bus) e h) s k.0 k.1

kept_from : (p : Contents) → IsRead p → (items : List Seen) (o : Observer) (a : Attempt) → AreAllowed p o items → ShapeOf p o a → KeptOf p o a
    → KeptOf p (observed p items o) (latest_from p a items)
kept_from p good [] o a h s k = k
kept_from p good (i ∷ items) o a h s k =
    kept_from p good items (sees p i o)
    (under_way (asks i.bus (form_of p.codes i.bus i.word)) (grown i.bus i.word (form_of p.codes i.bus i.word) a)) h.1
    (item_shape p good i o a h.0 s) (item_kept p good i o a h.0 s k)

all_of : (p : Contents) (phase : SinkPhase) (a : Attempt) → Kept p phase a → is_some a.acked ≡ true → IsAll p a
all_of p Quiet a k is = k is
all_of p OwesClear a k is = not_acked a.acked k is
all_of p Granted a k is = not_acked a.acked k is
all_of p (InBlock b) a k is = not_acked a.acked k.1 is
all_of p (OwesAck b flags) a k is = not_acked a.acked k.1 is
all_of p OwesNak a k is = not_acked a.acked k is

pub heard_whole : (p : Contents) → IsProfile p → (items : List Seen) → AreAllowed p at_first items → (b : kept.Attempt)
    → IsRecorded p.codes (latest p items) b → IsWholeIfHeard b
heard_whole p sound items allowed b r heard =
    let a = latest p items in
    let none : is_some a.acked ≡ true → IsAll p a =
    all_of p (observed p items at_first).phase a
    (kept_from p (is_read p sound) items at_first (fresh 0) allowed (shaped_front p [] tt, tt) (refl, λ is. absurd (cc is))).1 in
    let all = none (sym r.acked ∙ heard) in
    record {
      start = ap is_some r.start ∙ all.start;
      end = ap is_some r.end ∙ all.end;
      words = ap (λ (l : List ℕ). length l + 2) r.words ∙ all.words ∙ sym r.count;
    }

-- ---- so its words are some of the block's

module _ (p : Contents) (sound : IsProfile p) where
  start_is : (w g f l : ℕ) → form_of p.codes bus.A w ≡ Some (form.Sot g f l) → w ≡ word_number p.codes (form.Sot g f l)
  start_is w g f l e =
      let there = ((form_of-is p sound bus.A w (form.Sot g f l)).0 e).1 in
      one_word p.codes bus.A w (word_number p.codes (form.Sot g f l)) (form.Sot g f l) there
      (word_number-is p sound (form.Sot g f l) there.range)

  end_is : (w f k : ℕ) → form_of p.codes bus.A w ≡ Some (form.Eot f k) → w ≡ word_number p.codes (form.Eot f k)
  end_is w f k e =
      let there = ((form_of-is p sound bus.A w (form.Eot f k)).0 e).1 in
      one_word p.codes bus.A w (word_number p.codes (form.Eot f k)) (form.Eot f k) there (word_number-is p sound (form.Eot f k) there.range)

  -- words after the start word say nothing of it
  start_rest : (s : Option StartWord) (parts end : List ℕ) → AreParts p parts → IsEnding p end → start_from p.codes s (parts ++ end) ≡ s
  start_rest s [] [] h e = refl
  start_rest s [] (w ∷ []) h e = ap (λ (o : Option Form). start_by o s) e.says
  start_rest s [] (w ∷ (v ∷ ws)) h e = absurd e
  start_rest s (w ∷ parts) end h e =
      ap (λ (o : Option Form). start_from p.codes (start_by o s) (parts ++ end)) h.0.1 ∙ start_rest s parts end h.1 e

  data_parts : (parts : List ℕ) → AreParts p parts → data_words p.codes parts ≡ parts
  data_parts [] h = refl
  data_parts (w ∷ parts) h =
      ap (λ (o : Option Form). data_first w o (data_words p.codes parts)) h.0.1 ∙ ap (λ (l : List ℕ). w ∷ l) (data_parts parts h.1)

  data_end : (end : List ℕ) → IsEnding p end → data_words p.codes end ≡ []
  data_end [] e = refl
  data_end (w ∷ []) e = ap (λ (o : Option Form). data_first w o []) e.says
  data_end (w ∷ (v ∷ ws)) e = absurd e

  data_all : (parts end : List ℕ) → AreParts p parts → IsEnding p end → data_words p.codes (parts ++ end) ≡ parts
  data_all parts end h e = data-append p.codes parts end ∙ ap (λ (l : List ℕ). data_words p.codes parts ++ l) (data_end end e)
      ∙ append-nil (data_words p.codes parts) ∙ data_parts parts h

  module _ (u : LduValue) (n : UnitNumber) where
    abbrev Start : Option StartWord → Type 0
    Start o = IfSome o (λ s. (u.gfi ≡ s.gfi) × (s.number ≡ n))

    abbrev End : Option EndWord → Type 0
    End o = IfSome o (λ e. (u.flags ≡ e.flags) × (u.check ≡ e.check))

    -- data words, and an end word or none
    sub_rest : (parts end : List ℕ) → IsEnding p end → End (end_from p.codes None (parts ++ end)) → IsSubsequenceOf parts u.words
        → IsSubsequenceOf (parts ++ end) (u.words ++ word_number p.codes (form.Eot u.flags u.check) ∷ [])
    sub_rest parts [] e says h =
        subst (λ (l : List ℕ). IsSubsequenceOf l (u.words ++ word_number p.codes (form.Eot u.flags u.check) ∷ [])) (sym (append-nil parts))
        (sub_lost _ parts u.words h)
    sub_rest parts (w ∷ []) e says h =
        let said : (u.flags ≡ e.flags) × (u.check ≡ e.check) =
        subst End (end_push p.codes None parts w ∙ ap (λ (o : Option Form). end_by o (end_from p.codes None parts)) e.says) says in
        let same : word_number p.codes (form.Eot u.flags u.check) ≡ w = ap (λ (k : ℕ). word_number p.codes (form.Eot k u.check)) said.0
        ∙ ap (λ (k : ℕ). word_number p.codes (form.Eot e.flags k)) said.1 ∙ sym (end_is w e.flags e.check e.says) in
        subst (λ (x : ℕ). IsSubsequenceOf (parts ++ w ∷ []) (u.words ++ x ∷ [])) (sym same) (sub_push w parts u.words h)
    sub_rest parts (w ∷ (v ∷ ws)) e says h = absurd e

    sub_block : (front end : List ℕ)
        → IsFront p front → IsEnding p end → Start (start_from p.codes None (front ++ end)) → End (end_from p.codes None (front ++ end))
        → IsSubsequenceOf (data_words p.codes (front ++ end)) u.words → IsSubsequenceOf (front ++ end) (block_of p.codes u n.file n.ldu)
    sub_block [] end h e start says has = inl (sub_rest [] end e says (sub_none u.words))
    sub_block (w ∷ parts) end (inl s, h) e start says has =
        let said : (u.gfi ≡ s.gfi) × (record { file = s.file; ldu = s.ldu } ≡ n) =
        subst Start (ap (λ (o : Option Form). start_from p.codes (start_by o None) (parts ++ end)) s.says
        ∙ start_rest (Some (record { gfi = s.gfi; number = record { file = s.file; ldu = s.ldu } })) parts end h e) start in
        let same : w ≡ word_number p.codes (form.Sot u.gfi n.file n.ldu) =
        start_is w s.gfi s.file s.ldu s.says ∙ ap (λ (k : ℕ). word_number p.codes (form.Sot k s.file s.ldu)) (sym said.0)
        ∙ ap (λ (m : UnitNumber). word_number p.codes (form.Sot u.gfi m.file m.ldu)) said.1 in
        let some : IsSubsequenceOf parts u.words =
        subst (λ (l : List ℕ). IsSubsequenceOf l u.words)
        (ap (λ (o : Option Form). data_first w o (data_words p.codes (parts ++ end))) s.says ∙ data_all parts end h e) has in
        inr (
          parts ++ end,
          ap (λ (x : ℕ). x ∷ (parts ++ end)) same,
          sub_rest parts end e (subst End (ap (λ (o : Option Form). end_from p.codes (end_by o None) (parts ++ end)) s.says) says) some,
        )
    sub_block (w ∷ parts) end (inr i, h) e start says has =
        inl (sub_rest (w ∷ parts) end e says (subst (λ (l : List ℕ). IsSubsequenceOf l u.words) (data_all (w ∷ parts) end (i, h) e) has))

-- where what is kept of the last attempt may be of this link data unit, the attempt is one to send it
pub is_of : (p : Contents) → IsProfile p → (items : List Seen) → AreAllowed p at_first items → (b : kept.Attempt) (t : Assigned)
    → IsRecorded p.codes (latest p items) b → MayBeTo p b t → IsOf p (Some t) (latest p items)
is_of p sound items allowed b t r may =
    let a = latest p items in
    let f = latest_formed p (is_read p sound) items allowed in
    let s = f.shaped in
    let start =
    subst (λ (o : Option StartWord). IfSome o (λ x. (t.unit.gfi ≡ x.gfi) × (x.number ≡ t.number)))
    (r.start ∙ ap (start_from p.codes None) s.is) (both_of b.start may.unit.gfi may.number) in
    let end =
    subst (λ (o : Option EndWord). IfSome o (λ x. (t.unit.flags ≡ x.flags) × (t.unit.check ≡ x.check)))
    (r.end ∙ ap (end_from p.codes None) s.is) may.unit.end in
    let words = subst (λ (l : List ℕ). IsSubsequenceOf l t.unit.words) (r.words ∙ ap (data_words p.codes) s.is) may.unit.words in (
      record {
        asked = sym r.count ∙ sym may.unit.count;
        words =
            subst (λ (l : List ℕ). IsSubsequenceOf l (block_of p.codes t.unit t.number.file t.number.ldu)) (sym s.is)
            (sub_block p sound t.unit t.number s.front s.end s.fronts s.ends start end words);
      },
      own a.acked f.acked,
    )
  where
    both_of : (o : Option StartWord) → IfSome o (λ x. t.unit.gfi ≡ x.gfi) → IfSome o (λ x. x.number ≡ t.number)
        → IfSome o (λ x. (t.unit.gfi ≡ x.gfi) × (x.number ≡ t.number))
    both_of None g n = tt
    both_of (Some x) g n = (g, n)

    own : (o : Option UnitNumber) → IfSome o (λ n. HasStart p n (latest p items).words) → IsAckedAs t.number o
    own None h = tt
    own (Some n) h =
        let number = subst (λ (o : Option StartWord). IfSome o (λ x. x.number ≡ t.number)) (r.start ∙ h.is) may.number in
        sym h.number ∙ number
