-- Verdicts that are given before a search.
use Rattle.std.proofs.lemmas.Bool.{cases_order}
use Rattle.std.proofs.lemmas.List.{length-take-le, take-map}
use Rattle.std.proofs.lemmas.Option.{slice_get_past}
use Rattle.std.proofs.Common.{IfSome, ◌≡◌, ◌⊎◌, ℕ, zero, suc, ◌+◌, ◌<◌, ◌≤◌, List, [], ◌∷◌, ◌++◌, length, take, drop, Option, Some, None, IsSome, slice_get, refl, sym, ap, ◌∙◌, subst, inl, inr, append-nil, arith}
use Rattle.a429_profile.specs.Profile.{Contents}
use Rattle.a429_profile.specs.declared.codes.Codes.{Codes}
use Rattle.a429_ldu.specs.declared.forms.Form.TheVariants.{Rts, Cts, Ack, Nak, Sot, Part, Eot}
use Rattle.a429_ldu.specs.declared.sight.Sight.{Sight}
use Rattle.a429_ldu.specs.declared.sight.Sight.TheVariants as sight
use Rattle.a429_ldu.specs.Sight.{sight_of}
use Rattle.a429_link.specs.declared.file.FileBytes.{FileBytes}
use Rattle.a429_link.specs.declared.seen.Seen.{Seen}
use Rattle.a429_link.specs.Attempt.{latest}
use Rattle.a429_link.specs.Contradiction.{IsOtherNext, IsWrongNext, so_far}
use Rattle.a429_link.specs.Observer.{AllowsNext, at_first, observed}
use Rattle.a429_link.specs.Run.{BeginsARun}
use Rattle.a429_link.specs.WholeBlock.{ComesNext, EndsBad, IsHalfNext}
use Rattle.a429_record.specs.declared.entry.Entry.{Entry}
use Rattle.a429_cert.specs.Explained.{AreInSomeRun, IsExplained, items_of, seen_of}
use Rattle.a429_cert.proofs.ExplainedFacts.{in_some_run}
use Rattle.a429_explain.specs.declared.verdict.Reason.{Reason}
use Rattle.a429_explain.specs.declared.verdict.Reason.TheVariants.{NoForm, NotGranted, WrongAnswer, BadBlock, WrongNumber, OtherBlock, NoRun}
use Rattle.a429_explain.specs.declared.verdict.Doubt.{Doubt}
use Rattle.a429_explain.specs.declared.verdict.Verdict.TheVariants.{Impossible, Unexplained}
use Rattle.a429_explain.specs.Verdict.{IsFirst}
use Rattle.a429_explain.specs.Walk.{AreAllowedUpTo, FitsAt, FitsSight}
use Rattle.a429_contradiction.specs.declared.contradiction.Contradiction.{Contradiction}
use Rattle.a429_merge.specs.Budget.{IsReached}
use Rattle.a429_merge.specs.declared.budget.Cut.{Cut}
use Rattle.a429_contradiction.specs.Contradiction.{ContradictsAt, HasNoContradiction, HasNoneBefore, HasNoRun}
use Rattle.a429_contradiction.proofs.ContradictionFacts.{none_before}
use Rattle.a429_search.specs.Recorded.{IsRequestAt, asked_at}
use Rattle.a429_search.specs.Deciding.{HasDoubt, HasNoReason, IsFirstReasonAt, IsImpossibleBy, IsNoRun, IsNoRunUnlessCut, IsReasonAt, IsSearched}

-- ---- the first words of a recording

take_first : {X : Type 0} (k n : ℕ) (xs : List X) → k ≤ n → take k (take n xs) ≡ take k xs
take_first zero n xs l = refl
take_first (suc k) zero xs l = absurd (omega arith)
take_first (suc k) (suc n) [] l = refl
take_first {X} (suc k) (suc n) (x ∷ xs) l = ap (λ (ys : List X). x ∷ ys) (take_first k n xs (omega arith))

get_first : {X : Type 0} (k n : ℕ) (xs : List X) → k < n → slice_get (take n xs) k ≡ slice_get xs k
get_first k zero xs l = absurd (omega arith)
get_first k (suc n) [] l = refl
get_first zero (suc n) (x ∷ xs) l = refl
get_first (suc k) (suc n) (x ∷ xs) l = get_first k n xs (omega arith)

-- what contradicts, by the items before and the item itself
abbrev ContradictsNext : Contents → List Seen → Option Seen → Reason → Type 0
ContradictsNext p before next BadBlock = EndsBad p (observed p before at_first) next ⊎ IsHalfNext p (latest p before) next
ContradictsNext p before next WrongNumber = (¬ ComesNext p (observed p before at_first) next) ⊎ IsWrongNext p (so_far p before) next
ContradictsNext p before next OtherBlock = IsOtherNext p (so_far p before) next
ContradictsNext p before next reason = ⊥

as_next : (p : Contents) (items : List Seen) (k : ℕ) (r : Reason)
    → ContradictsAt p items k r ≡ ContradictsNext p (take k items) (slice_get items k) r
as_next p items k BadBlock = refl
as_next p items k WrongNumber = refl
as_next p items k OtherBlock = refl
as_next p items k NoForm = refl
as_next p items k NotGranted = refl
as_next p items k WrongAnswer = refl
as_next p items k NoRun = refl

-- the same of the first n words
in_first : (p : Contents) (items : List Seen) (n k : ℕ) (r : Reason)
    → k < n → ContradictsAt p (take n items) k r ≡ ContradictsAt p items k r
in_first p items n k r l =
    as_next p (take n items) k r
    ∙ ap (λ (xs : List Seen). ContradictsNext p xs (slice_get (take n items) k) r) (take_first k n items (omega arith))
    ∙ ap (λ (o : Option Seen). ContradictsNext p (take k items) o r) (get_first k n items l)
    ∙ sym (as_next p items k r)

contradicts_none : (p : Contents) (before : List Seen) (r : Reason) → ¬ ContradictsNext p before None r
contradicts_none p before BadBlock (inl h) = h
contradicts_none p before BadBlock (inr h) = h
contradicts_none p before WrongNumber (inl h) = h tt
contradicts_none p before WrongNumber (inr h) = h
contradicts_none p before OtherBlock h = h
contradicts_none p before NoForm h = h
contradicts_none p before NotGranted h = h
contradicts_none p before WrongAnswer h = h
contradicts_none p before NoRun h = h

-- a reason holds at some item
contradicts_within : (p : Contents) (items : List Seen) (k : ℕ) (r : Reason) → ContradictsAt p items k r → k < length items
contradicts_within p items k r h = elim (cases_order k (length items)) [
  | inl e ↦ past (omega (arith, e))
  | inr (inl l) ↦ l
  | inr (inr g) ↦ past (omega (arith, g))
]
  where
    past : length items ≤ k → k < length items
    past l =
        absurd (contradicts_none p (take k items) r (subst (λ (o : Option Seen). ContradictsNext p (take k items) o r)
        (slice_get_past items k l) (subst (λ (T : Type 0). T) (as_next p items k r) h)))

fits_within : (p : Contents) (items : List Seen) (k : ℕ) (r : Reason) → FitsAt p.codes (slice_get items k) r → k < length items
fits_within p items k r h = elim (cases_order k (length items)) [
  | inl e ↦ past (omega (arith, e))
  | inr (inl l) ↦ l
  | inr (inr g) ↦ past (omega (arith, g))
]
  where
    past : length items ≤ k → k < length items
    past l = absurd (subst (λ (o : Option Seen). FitsAt p.codes o r) (slice_get_past items k l) h)

-- where each of the first n words is allowed, and none contradicts those before it, no reason holds
pub no_reason : (p : Contents) (items : List Seen) (n : ℕ)
    → AreAllowedUpTo p items n → HasNoContradiction p items n → (k : ℕ) (r : Reason) → k < n → ¬ IsReasonAt p items k r
no_reason p items n may none k r l (inl h) = h.0 (may k l)
no_reason p items n may none k r l (inr h) = none k l r h

pub reason_within : (p : Contents) (items : List Seen) (k : ℕ) (r : Reason) → IsReasonAt p items k r → k < length items
reason_within p items k r (inl h) = fits_within p items k r h.1
reason_within p items k r (inr h) = contradicts_within p items k r h

pub at_least : (p : Contents) (items : List Seen) (n : ℕ)
    → AreAllowedUpTo p items n → HasNoContradiction p items n → (k : ℕ) (r : Reason) → IsReasonAt p items k r → n ≤ k
at_least p items n may none k r h = elim (cases_order k n) [
  | inl e ↦ omega (arith, e)
  | inr (inl l) ↦ absurd (no_reason p items n may none k r l h)
  | inr (inr g) ↦ omega (arith, g)
]

-- no word of the recording is refused, and none contradicts
pub no_reason_at_all : (p : Contents) (items : List Seen)
    → HasNoReason p items (length items) → (k : ℕ) (r : Reason) → ¬ IsReasonAt p items k r
no_reason_at_all p items (may, none) k r h = no_reason p items (length items) may none k r (reason_within p items k r h) h

-- ---- in the first n words

pub allowed_first : (p : Contents) (items : List Seen) (n : ℕ)
    → AreAllowedUpTo p items n → AreAllowedUpTo p (take n items) (length (take n items))
allowed_first p items n may k l =
    let m : k < n = omega (arith, l, take_short n items) in
    subst (λ (xs : List Seen). AllowsNext p (observed p xs at_first) (slice_get (take n items) k))
    (sym (take_first k n items (omega arith)))
    (subst (λ (o : Option Seen). AllowsNext p (observed p (take k items) at_first) o) (sym (get_first k n items m)) (may k m))
  where
    take_short : (n : ℕ) (xs : List Seen) → length (take n xs) ≤ n
    take_short zero xs = omega arith
    take_short (suc n) [] = omega arith
    take_short (suc n) (x ∷ xs) = omega (arith, take_short n xs)

pub none_first : (p : Contents) (items : List Seen) (n : ℕ)
    → n ≤ length items → HasNoContradiction p (take n items) (length (take n items)) → HasNoContradiction p items n
none_first p items n m none k l r h =
    none k (omega (arith, length-take-le n items m)) r (subst (λ (T : Type 0). T) (sym (in_first p items n k r l)) h)

-- a word of the first n at which no run goes on
pub record IsFound (p : Contents) (items : List Seen) (n : ℕ) (c : Contradiction) : Type 0 where
  pub inside : c.entry < length items
  pub within : c.entry < n
  pub how : (ContradictsAt p items c.entry c.reason × HasNoneBefore (ContradictsAt p items c.entry) c.reason)
      ⊎ ((c.reason ≡ NoRun) × HasNoContradiction p items (c.entry + 1))
  pub before : HasNoContradiction p items c.entry
  pub no_run : HasNoRun p items c.entry

none_here : (p : Contents) (items : List Seen) (n k : ℕ) → k ≤ n → HasNoContradiction p (take n items) k → HasNoContradiction p items k
none_here p items n k l none j m r h = none j m r (subst (λ (T : Type 0). T) (sym (in_first p items n j r (omega arith))) h)

-- it is one of the recording
pub found_first : (p : Contents) (items : List Seen) (n : ℕ) (c : Contradiction)
    → n ≤ length items → IsNoRun p (take n items) c → IsFound p items n c
found_first p items n c m is =
    let l : c.entry < n = omega (arith, is.inside, length-take-le n items m) in
    let no_run : HasNoRun p items c.entry =
    λ run. is.no_run (subst (λ (xs : List Seen). BeginsARun p xs) (sym (take_first (c.entry + 1) n items (omega arith))) run) in
    elim is.how [
      | inl first ↦ record {
        inside = omega arith;
        within = l;
        how = inl (
          subst (λ (T : Type 0). T) (in_first p items n c.entry c.reason l) first.holds,
          none_before (ContradictsAt p items c.entry) (ContradictsAt p (take n items) c.entry)
              (λ k h. subst (λ (T : Type 0). T) (sym (in_first p items n c.entry k l)) h) c.reason first.ranked,
        );
        before = none_here p items n c.entry (omega arith) first.before;
        no_run = no_run;
      }
      | inr (none, before) ↦ record {
        inside = omega arith;
        within = l;
        how = inr (none, none_here p items n (c.entry + 1) (omega arith) before);
        before = λ k j. none_here p items n (c.entry + 1) (omega arith) before k (omega arith);
        no_run = no_run;
      }
    ]

-- words that begin so among the first n
pub begins_within : (p : Contents) (es : List Entry) (n k : ℕ)
    → k ≤ n → BeginsARun p (take k (items_of (take n es))) → BeginsARun p (take k (items_of es))
begins_within p es n k l =
    subst (BeginsARun p) (ap (take k) (sym (take-map seen_of n es)) ∙ take_first k n (items_of es) l)

-- one that a search finds before a contradiction
pub no_run_before : (p : Contents) (es : List Entry) (n : ℕ) (c : Contradiction) (cut : Option Cut)
    → n ≤ length (items_of es) → HasNoContradiction p (items_of es) n → IsSearched p (items_of (take n es)) cut (Some c)
    → IsNoRunUnlessCut p (items_of es) c cut
no_run_before p es n c cut m none (inside, why, no_run, begins) =
    let within : c.entry < n = omega (arith, inside, ap length (take-map seen_of n es), length-take-le n (items_of es) m) in (
      record {
        inside = omega arith;
        how = inr (why, λ k j. none k (omega (arith, j, within)));
        no_run =
            λ run. no_run (subst (BeginsARun p) (sym (ap (take (c.entry + 1)) (sym (take-map seen_of n es))
            ∙ take_first (c.entry + 1) n (items_of es) (omega arith))) run);
      },
      λ uncut. begins_within p es n c.entry (omega arith) (begins uncut),
    )

pub less_allowed : (p : Contents) (items : List Seen) (n k : ℕ) → k ≤ n → AreAllowedUpTo p items n → AreAllowedUpTo p items k
less_allowed p items n k l may j m = may j (omega arith)

-- ---- an explanation

take_drop : {X : Type 0} (n : ℕ) (xs : List X) → take n xs ++ drop n xs ≡ xs
take_drop zero xs = refl
take_drop (suc n) [] = refl
take_drop {X} (suc n) (x ∷ xs) = ap (λ (l : List X). x ∷ l) (take_drop n xs)

begins_first : (p : Contents) (items : List Seen) (certificate : List ℕ) (files : List FileBytes)
    → IsExplained p certificate items files → (n : ℕ) → BeginsARun p (take n items)
begins_first p items certificate files h n =
    let r = in_some_run p certificate items files h in
    record {
      first = r.first;
      byte = r.byte;
      steps = r.steps;
      run = r.run;
      more = drop n items;
      records = r.recorded ∙ sym (take_drop n items);
    }

pub explained_none : (p : Contents) (items : List Seen) (certificate : List ℕ) (files : List FileBytes)
    → IsExplained p certificate items files → AreAllowedUpTo p items (length items)
    → ((items : List Seen) (i : ℕ) (r : Reason) → ContradictsAt p items i r → HasNoRun p items i)
    → (k : ℕ) (r : Reason) → ¬ IsReasonAt p items k r
explained_none p items certificate files is may law k r (inl h) = h.0 (may k (fits_within p items k r h.1))
explained_none p items certificate files is may law k r (inr h) = law items k r h (begins_first p items certificate files is (k + 1))

-- ---- verdicts

-- a word that is refused is not so by the reason of a contradiction
not_number : (s : Sight) → ¬ FitsSight s WrongNumber
not_number sight.Free h = h
not_number sight.NoForm h = h
not_number (sight.Form (Rts n)) h = h
not_number (sight.Form (Cts n)) h = h
not_number (sight.Form (Ack f l)) h = h
not_number (sight.Form (Nak q)) h = h
not_number (sight.Form (Sot g f l)) h = h
not_number (sight.Form (Part q)) h = h
not_number (sight.Form (Eot f c)) h = h

not_other : (s : Sight) → ¬ FitsSight s OtherBlock
not_other sight.Free h = h
not_other sight.NoForm h = h
not_other (sight.Form (Rts n)) h = h
not_other (sight.Form (Cts n)) h = h
not_other (sight.Form (Ack f l)) h = h
not_other (sight.Form (Nak q)) h = h
not_other (sight.Form (Sot g f l)) h = h
not_other (sight.Form (Part q)) h = h
not_other (sight.Form (Eot f c)) h = h

pub first_of_refused : (c : Codes) (o : Option Seen) (Holds : Reason → Type 0) (r : Reason) → FitsAt c o r → HasNoneBefore Holds r
first_of_refused c None Holds r h = absurd h
first_of_refused c (Some i) Holds WrongNumber h = absurd (not_number (sight_of c i.bus i.word) h)
first_of_refused c (Some i) Holds OtherBlock h = absurd (not_other (sight_of c i.bus i.word) h)
first_of_refused c (Some i) Holds BadBlock h = tt
first_of_refused c (Some i) Holds NoForm h = tt
first_of_refused c (Some i) Holds NotGranted h = tt
first_of_refused c (Some i) Holds WrongAnswer h = tt
first_of_refused c (Some i) Holds NoRun h = tt

pub impossible_by : (p : Contents) (items : List Seen) (n : ℕ) (c : Contradiction)
    → AreAllowedUpTo p items n → IsFound p items n c → IsImpossibleBy p items (Impossible c.entry c.reason)
impossible_by p items n c may h = (h.inside, how h.how, h.no_run)
  where
    how : (ContradictsAt p items c.entry c.reason × HasNoneBefore (ContradictsAt p items c.entry) c.reason)
        ⊎ ((c.reason ≡ NoRun) × HasNoContradiction p items (c.entry + 1))
        → IsFirstReasonAt p items c.entry c.reason ⊎ ((c.reason ≡ NoRun) × HasNoReason p items (c.entry + 1))
    how (inl (holds, ranked)) = inl (inr holds, ranked)
    how (inr (is, none)) = inr (is, (less_allowed p items n (c.entry + 1) (omega (arith, h.within)) may, none))

pub first_by : (p : Contents) (items : List Seen) (n : ℕ) (c : Contradiction)
    → AreAllowedUpTo p items n → IsFound p items n c → (k : ℕ) (r : Reason) → IsReasonAt p items k r → c.entry ≤ k
first_by p items n c may h = at_least p items c.entry (less_allowed p items n c.entry (omega (arith, h.within)) may) h.before

-- ---- doubts

pub doubt_of_check : (p : Contents) (items : List Seen) (i : ℕ) (d : Doubt) → IsFirst p items (Unexplained i d) → HasDoubt p items
doubt_of_check p items i d is = record { entry = i; doubt = d; is = is }

-- a request is at an item
pub request_inside : (p : Contents) (items : List Seen) (i : ℕ) → IsRequestAt p items i → i < length items
request_inside p items i is = elim (cases_order i (length items)) [
  | inl e ↦ past (omega (arith, e))
  | inr (inl l) ↦ l
  | inr (inr g) ↦ past (omega (arith, g))
]
  where
    past : length items ≤ i → i < length items
    past l = let none = subst (λ (o : Option Seen). IsSome (asked_at p.codes o)) (slice_get_past items i l) is in absurd (cc none)

-- ---- a run that is written down

pub some_begins : (p : Contents) (items : List Seen) (files : List FileBytes) → AreInSomeRun p items files → BeginsARun p items
some_begins p items files r =
    record { first = r.first; byte = r.byte; steps = r.steps; run = r.run; more = []; records = r.recorded ∙ sym (append-nil items) }

-- the limit of each cut was reached
pub is_reached : (o : Option Cut) → IfSome o (λ c. IsReached c.by.limit)
is_reached None = tt
is_reached (Some c) = c.by.reached
