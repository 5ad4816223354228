-- What a cutter knows after an entry, and after a part.
use Rattle.std.proofs.Common.{◌≡◌, ◌+◌, ◌-◌, ◌<◌, ◌≤◌, ◌⊎◌, ℕ, suc, List, [], ◌∷◌, ◌++◌, length, take, drop, Option, Some, None, Result, Ok, Err, arith, append_assoc, append-nil, length-append, refl, sym, ap, ◌∙◌, subst, inl, inr}
use Rattle.std.specs.Prelude.{IfOk, IfSome, slice_get, unwrap_or}
use Rattle.std.proofs.Math.ListN.{drop_of_length-le}
use Rattle.std.proofs.Math.Seq.{take-append-add}
use Rattle.std.proofs.lemmas.Bool.{cases_lt}
use Rattle.std.proofs.lemmas.List.{length-drop, length-take-le, take-append-drop, take-append-le}
use Rattle.a429_profile.specs.Profile.{Contents}
use Rattle.a429_record.specs.declared.entry.Entry.{Entry}
use Rattle.a429_link.specs.declared.seen.Seen.{Seen}
use Rattle.a429_link.specs.Observer.{Observer}
use Rattle.a429_cert.specs.Explained.{items_of, seen_of}
use Rattle.a429_cert.proofs.ItemsFacts.{items_append, length-items_of}
use Rattle.a429_parts.specs.declared.doubt.Doubt.{Doubt}
use Rattle.a429_parts.specs.declared.doubt.Doubt.TheVariants.{AfterUnit, Anew}
use Rattle.a429_parts.specs.Cutter.{AwaitsPlace, Cuts, CutsAlways, CutterState, EndsLast, EndsNowhere, HasNoPart, IsCurrent, IsFoundInTime, IsInReach, IsNextPart, IsNextPartAtEnd, IsPart, IsPastDoubt}
use Rattle.a429_parts.specs.Cutting.{CourseAfter, IsPlace, Lost}
use Rattle.a429_parts.specs.Near.{IsNearEnough}
use Rattle.a429_parts.specs.Watch.{Finds, IsInDoubt, IsKnownIn, TakesWord, Watched, Watches}
use Rattle.a429_parts.proofs.PlacesFacts.{place_append}
use Rattle.a429_parts.proofs.WatchFacts.{takes_finds, takes_found, takes_place, takes_until, takes_watches}

-- ---- an entry more

get_after : (xs rest : List Entry) (e : Entry) → slice_get (items_of (xs ++ (e ∷ rest))) (length xs) ≡ Some (seen_of e)
get_after [] rest e = refl
get_after (x ∷ xs) rest e = get_after xs rest e

pub next_word : (p : Contents) (parted rest : List Entry) (e : Entry) (c : CutterState)
    → Cuts p parted (e ∷ rest) c → slice_get (items_of (parted ++ (c.waiting ++ (e ∷ rest)))) c.watched.count ≡ Some (seen_of e)
next_word p parted rest e c h =
    subst (λ (xs : List Entry). slice_get (items_of xs) c.watched.count ≡ Some (seen_of e)) (append_assoc parted c.waiting (e ∷ rest))
    (subst (λ (n : ℕ). slice_get (items_of ((parted ++ c.waiting) ++ (e ∷ rest))) n ≡ Some (seen_of e))
    (length-append parted c.waiting ∙ sym h.count) (get_after (parted ++ c.waiting) rest e))

-- a place that is in doubt, and awaited
abbrev IsAwaited : CutterState → ℕ → Type 0
IsAwaited c place = (place ≤ c.begin + c.most) × (c.begin + length c.waiting ≤ place + c.most)

-- the watch of the words so far, and the next one
module _ (p : Contents) (parted rest : List Entry) (e : Entry) (old new : CutterState) (found : Option ℕ) (h : Cuts p parted (e ∷ rest) old)
    (takes : TakesWord p (seen_of e) old.watched new.watched found) where
  abbrev words : List Seen
  words = items_of (parted ++ (old.waiting ++ (e ∷ rest)))

  get : slice_get words old.watched.count ≡ Some (seen_of e)
  get = next_word p parted rest e old h

  counted : new.watched.count ≡ suc old.watched.count
  counted = ap (λ (w : Watched). w.count) takes.counts

  place_by : (P : ℕ → Type 0) (o : Option ℕ) (last : ℕ) → IfSome o P → (0 < last → P last) → 0 < unwrap_or o last → P (unwrap_or o last)
  place_by P None last is stays some = stays some
  place_by P (Some k) last is stays some = is

  pub cuts_more : new.begin ≡ old.begin → new.waiting ≡ old.waiting ++ e ∷ [] → new.place ≡ unwrap_or found old.place
      → Cuts p parted rest new
  cuts_more begin waiting place = record {
    begin = begin ∙ h.begin;
    count = omega (arith, counted, h.count, ap length waiting, length-append old.waiting (e ∷ []));
    watches =
        subst (λ (xs : List Entry). Watches p (items_of xs) new.watched) same
        (takes_watches p words (seen_of e) old.watched new.watched found takes get h.watches);
    place =
        λ some. subst (λ (xs : List Entry). IsPlace p (items_of xs) new.place) same
        (subst (IsPlace p words) (sym place) (place_by (IsPlace p words) found old.place
        (takes_place p words (seen_of e) old.watched new.watched found takes get h.watches) h.place (subst (λ (n : ℕ). 0 < n) place some)));
    before =
        λ some.
        omega (arith, place, counted, takes_until p words (seen_of e) old.watched new.watched found takes get h.watches old.place h.finds);
    finds =
        subst (λ (xs : List Entry). Finds p (items_of xs) new.place new.watched) same
        (subst (λ (n : ℕ). Finds p words n new.watched) (sym place)
        (takes_finds p words (seen_of e) old.watched new.watched found takes get h.watches old.place h.finds));
  }
    where
      same : parted ++ (old.waiting ++ (e ∷ rest)) ≡ parted ++ (new.waiting ++ rest)
      same =
          ap (λ (xs : List Entry). parted ++ xs)
          (sym (append_assoc old.waiting (e ∷ []) rest) ∙ ap (λ (xs : List Entry). xs ++ rest) (sym waiting))

  -- the last place is not too far where each part that was complete has been ended
  pub in_reach : new.begin ≡ old.begin → new.most ≡ old.most → new.place ≡ unwrap_or found old.place → IsCurrent old → IsInReach new
  in_reach begin most place current = by current.1
    where
      until : unwrap_or found old.place ≤ old.watched.count
      until = takes_until p words (seen_of e) old.watched new.watched found takes get h.watches old.place h.finds

      by_found : (o : Option ℕ) → IfSome o (IsAwaited old) → unwrap_or o old.place ≤ old.begin + old.most
      by_found None few = current.0
      by_found (Some k) few = few.0

      by : (length old.waiting ≤ old.most) ⊎ AwaitsPlace old → IsInReach new
      by (inl few) = omega (arith, begin, most, place, until, few, h.count, h.begin)
      by (inr near) =
          omega
          (arith, begin, most, place, by_found found (takes_found p (seen_of e) old.watched new.watched found takes (IsAwaited old) near.0))

-- the same place, of the same entries
place_same : (p : Contents) {a b m n : ℕ} {xs ys : List Entry}
    → a ≡ b → m ≡ n → xs ≡ ys → IsPlace p (items_of (take (a + m + 1) xs)) a → IsPlace p (items_of (take (b + n + 1) ys)) b
place_same p {a} {b} {m} {n} {xs} {ys} e1 e2 e3 h =
    subst (λ (l : List Entry). IsPlace p (items_of (take (b + n + 1) l)) b) e3
    (subst (λ (k : ℕ). IsPlace p (items_of (take (b + k + 1) xs)) b) e2
    (subst (λ (k : ℕ). IsPlace p (items_of (take (k + m + 1) xs)) k) e1 h))

-- more of a list than two pieces of it
taken_past : (k : ℕ) (xs ys rest : List Entry)
    → length xs + length ys ≤ k → take k (xs ++ (ys ++ rest)) ≡ xs ++ (ys ++ take (k - (length xs + length ys)) rest)
taken_past k xs ys rest long =
    let more : ℕ = k - (length xs + length ys) in
    ap (take k) (sym (append_assoc xs ys rest)) ∙ ap (λ (n : ℕ). take n ((xs ++ ys) ++ rest)) (omega (arith, long, length-append xs ys))
    ∙ take-append-add (xs ++ ys) rest more ∙ append_assoc xs ys (take more rest)

-- a place that the next entry makes certain is found in time, where each part that was complete has been ended
module _ (p : Contents) (parted : List Entry) (e : Entry) (old new : CutterState) (begin : new.begin ≡ old.begin)
    (most : new.most ≡ old.most) (waiting : new.waiting ≡ old.waiting ++ e ∷ []) (cuts : CutsAlways p parted new) where
  found_new : (k : ℕ) → new.place ≡ k → (length old.waiting ≤ old.most) ⊎ IsAwaited old k → IsFoundInTime p parted new
  found_new k is near rest after =
      subst (λ (l : List Entry). IsPlace p (items_of l) new.place)
      (sym (taken_past (new.place + new.most + 1) parted new.waiting rest (long near)))
      ((cuts (take (new.place + new.most + 1 - (length parted + length new.waiting)) rest)).place (omega (arith, after)))
    where
      long : (length old.waiting ≤ old.most) ⊎ IsAwaited old k → length parted + length new.waiting ≤ new.place + new.most + 1
      long (inl few) = omega (arith, few, after, begin, most, (cuts []).begin, ap length waiting, length-append old.waiting (e ∷ []))
      long (inr awaited) = omega (arith, awaited.1, is, begin, most, (cuts []).begin, ap length waiting, length-append old.waiting (e ∷ []))

  pub found_more : (found : Option ℕ) → TakesWord p (seen_of e) old.watched new.watched found → new.place ≡ unwrap_or found old.place
      → IsCurrent old → IsFoundInTime p parted old → IsFoundInTime p parted new
  found_more None takes place current in_time rest after =
      place_same p (sym place) (sym most)
      (ap (λ (xs : List Entry). parted ++ xs)
      (sym (append_assoc old.waiting (e ∷ []) rest) ∙ ap (λ (xs : List Entry). xs ++ rest) (sym waiting)))
      (in_time (e ∷ rest) (omega (arith, after, place, begin)))
  found_more (Some k) takes place current in_time rest after = found_new k place (by current.1) rest after
    where
      by : (length old.waiting ≤ old.most) ⊎ AwaitsPlace old → (length old.waiting ≤ old.most) ⊎ IsAwaited old k
      by (inl few) = inl few
      by (inr near) = inr (takes_found p (seen_of e) old.watched new.watched (Some k) takes (IsAwaited old) near.0)

-- by the word and the watch as the code has them
pub takes_same : (p : Contents) (e : Entry) (watch old new : Watched) (word : Seen) (found : Option ℕ)
    → watch ≡ old → word ≡ seen_of e → TakesWord p word watch new found → TakesWord p (seen_of e) old new found
takes_same p e watch old new word found same is h =
    subst (λ (w : Watched). TakesWord p (seen_of e) w new found) same (subst (λ (i : Seen). TakesWord p i watch new found) is h)

-- ---- a part less

pub cuts_less : (p : Contents) (parted rest : List Entry) (size : ℕ) (old new : CutterState)
    → IsPart old size → new.begin ≡ old.place → new.place ≡ old.place → new.watched ≡ old.watched → new.waiting ≡ drop size old.waiting
    → Cuts p parted rest old → Cuts p (parted ++ take size old.waiting) rest new
cuts_less p parted rest size old new part begin place watched waiting h = record {
  begin = omega (arith, begin, part.place, h.begin, length-append parted (take size old.waiting), taken);
  count = omega (
    arith,
    ap (λ (w : Watched). w.count) watched,
    h.count,
    ap length waiting,
    length-drop size old.waiting,
    length-append parted (take size old.waiting),
    taken,
    part.waits,
  );
  watches =
      subst (λ (w : Watched). Watches p (items_of ((parted ++ take size old.waiting) ++ (new.waiting ++ rest))) w) (sym watched)
      (subst (λ (xs : List Entry). Watches p (items_of xs) old.watched) same h.watches);
  place =
      λ some. subst (λ (xs : List Entry). IsPlace p (items_of xs) new.place) same
      (subst (IsPlace p (items_of (parted ++ (old.waiting ++ rest)))) (sym place) (h.place (subst (λ (n : ℕ). 0 < n) place some)));
  before = λ some. omega (arith, place, ap (λ (w : Watched). w.count) watched, h.before (subst (λ (n : ℕ). 0 < n) place some));
  finds =
      subst (λ (w : Watched). Finds p (items_of ((parted ++ take size old.waiting) ++ (new.waiting ++ rest))) new.place w) (sym watched)
      (subst (λ (n : ℕ). Finds p (items_of ((parted ++ take size old.waiting) ++ (new.waiting ++ rest))) n old.watched) (sym place)
      (subst (λ (xs : List Entry). Finds p (items_of xs) old.place old.watched) same h.finds));
}
  where
    taken : length (take size old.waiting) ≡ size
    taken = length-take-le size old.waiting (omega (arith, part.waits))

    joined : old.waiting ++ rest ≡ take size old.waiting ++ (new.waiting ++ rest)
    joined = ap (λ (xs : List Entry). xs ++ rest) (sym (take-append-drop size old.waiting))
        ∙ (append_assoc (take size old.waiting) (drop size old.waiting) rest
        ∙ ap (λ (xs : List Entry). take size old.waiting ++ (xs ++ rest)) (sym waiting))

    same : parted ++ (old.waiting ++ rest) ≡ (parted ++ take size old.waiting) ++ (new.waiting ++ rest)
    same = ap (λ (xs : List Entry). parted ++ xs) joined ∙ sym (append_assoc parted (take size old.waiting) (new.waiting ++ rest))

-- ---- no place is missed

nothing_left : (items : List Seen) (n : ℕ) → n ≡ length items → drop n items ≡ []
nothing_left items n is = drop_of_length-le items (omega (arith, is))

-- where nothing comes any more, the place in doubt is none
doubt_by : (p : Contents) (items : List Seen) (n m : ℕ) (observer : Option Observer) (doubt : Option Doubt)
    → IsKnownIn p items n observer doubt [] → IsInDoubt m doubt → IsPlace p items m → ⊥
doubt_by p items n m observer None h in_doubt found = in_doubt
doubt_by p items n m None (Some (AfterUnit place unit)) h in_doubt found = h.1
doubt_by p items n m (Some o) (Some (AfterUnit place unit)) h in_doubt found = h.1.1 (subst (IsPlace p items) (sym in_doubt) found)
doubt_by p items n m observer (Some (Anew place)) h in_doubt found = h.2 (subst (IsPlace p items) (sym in_doubt) found)

module _ (p : Contents) (parted : List Entry) (c : CutterState) (cuts : CutsAlways p parted c) where
  abbrev came : List Entry
  came = parted ++ (c.waiting ++ [])

  length_came : length came ≡ c.begin + length c.waiting
  length_came = omega (arith, length-append parted (c.waiting ++ []), ap length (append-nil c.waiting), (cuts []).begin)

  count_came : c.watched.count ≡ length (items_of came)
  count_came = omega (arith, (cuts []).count, length-items_of came, length_came, (cuts []).begin)

  -- a place of the entries that came is not after the last one
  came_place : (n : ℕ) → n < c.begin + length c.waiting → IsPlace p (items_of came) n → n ≤ c.place
  came_place n few found = by (cases_lt c.place n)
    where
      none : IsInDoubt n c.watched.doubt ⊎ ((n ≡ c.watched.count) × CourseAfter p (items_of came) n Lost) → ⊥
      none (inl in_doubt) =
          doubt_by p (items_of came) c.watched.count n c.watched.observer c.watched.doubt
          (subst (λ (l : List Seen). IsKnownIn p (items_of came) c.watched.count c.watched.observer c.watched.doubt l)
          (nothing_left (items_of came) c.watched.count count_came) (cuts []).watches) in_doubt found
      none (inr end) = omega (arith, end.0, few, (cuts []).count, (cuts []).begin)

      by : (c.place < n) ⊎ (n ≤ c.place) → n ≤ c.place
      by (inr most) = most
      by (inl after) = absurd (none ((cuts []).finds.all n after (omega (arith, few, (cuts []).count, (cuts []).begin)) found))

  -- one of some first of them
  first_place : (k n : ℕ) → n < c.begin + length c.waiting → IsPlace p (items_of (take k came)) n → n ≤ c.place
  first_place k n few found =
      came_place n few
      (subst (λ (l : List Seen). IsPlace p l n) (sym (items_append (take k came) (drop k came)) ∙ ap items_of (take-append-drop k came))
      (place_append p (items_of (take k came)) (items_of (drop k came)) n found))

  abbrev all : List Entry → List Entry
  all rest = parted ++ (c.waiting ++ rest)

  all_is : (rest : List Entry) → all rest ≡ came ++ rest
  all_is rest = ap (λ (l : List Entry). parted ++ l) (ap (λ (l : List Entry). l ++ rest) (sym (append-nil c.waiting)))
      ∙ sym (append_assoc parted (c.waiting ++ []) rest)

  -- a place that is near enough is not after the last one
  pub near_place : (rest : List Entry) (n : ℕ)
      → c.most < length c.waiting → IsPastDoubt c → IsNearEnough p c.most (all rest) c.begin n → n ≤ c.place
  near_place rest n more past near = by (cases_lt (length came) (n + c.most + 1)) (cases_lt c.place n)
    where
      few : n < c.begin + length c.waiting
      few = omega (arith, near.1, more)

      by : (length came < n + c.most + 1) ⊎ (n + c.most + 1 ≤ length came) → (c.place < n) ⊎ (n ≤ c.place) → n ≤ c.place
      by some (inr most) = most
      by (inr short) (inl after) =
          first_place (n + c.most + 1) n few
          (subst (λ (l : List Entry). IsPlace p (items_of l) n)
          (ap (take (n + c.most + 1)) (all_is rest) ∙ take-append-le (n + c.most + 1) came rest short) near.2)
      by (inl long) (inl after) =
          absurd (none ((cuts (take (n + c.most + 1 - length came) rest)).finds.all n after
          (omega (arith, few, (cuts []).count, (cuts []).begin)) (subst (λ (l : List Entry). IsPlace p (items_of l) n) taken near.2)))
        where
          taken : take (n + c.most + 1) (all rest) ≡ all (take (n + c.most + 1 - length came) rest)
          taken =
              ap (take (n + c.most + 1)) (all_is rest)
              ∙ (ap (λ (k : ℕ). take k (came ++ rest)) (omega (arith, long))
              ∙ (take-append-add came rest (n + c.most + 1 - length came) ∙ sym (all_is (take (n + c.most + 1 - length came) rest))))

          none : IsInDoubt n c.watched.doubt
              ⊎ ((n ≡ c.watched.count) × CourseAfter p (items_of (all (take (n + c.most + 1 - length came) rest))) n Lost)
              → ⊥
          none (inl in_doubt) = omega (arith, past n in_doubt near.0 near.1, long, length_came)
          none (inr end) = omega (arith, end.0, few, (cuts []).count, (cuts []).begin)

  -- where nothing comes any more
  pub near_place_at_end : (n : ℕ) → c.most < length c.waiting → IsNearEnough p c.most (all []) c.begin n → n ≤ c.place
  near_place_at_end n more near = first_place (n + c.most + 1) n (omega (arith, near.1, more)) near.2

  pub never_after : 0 < c.place → c.place < c.begin + length c.waiting
  never_after some = omega (arith, (cuts []).before some, (cuts []).count, (cuts []).begin)

-- ---- what the code answers

-- a part ends at the last place, which is near enough
is_near : (p : Contents) (parted : List Entry) (c : CutterState) (size : ℕ) (rest : List Entry)
    → IsPart c size → IsFoundInTime p parted c → IsNearEnough p c.most (parted ++ (c.waiting ++ rest)) c.begin (c.begin + size)
is_near p parted c size rest part in_time = (
  omega (arith, part.some),
  omega (arith, part.within),
  place_same p (sym part.place) refl refl (in_time rest (omega (arith, part.place, part.some))),
)

ends_last : (c : CutterState) (size : ℕ) (rest : List Entry)
    → c.most < length c.waiting → IsPastDoubt c → IsPart c size → EndsLast c size rest
ends_last c size rest more past part p parted cuts =
    (λ n near. omega (arith, near_place p parted c cuts rest n more past near, part.place), is_near p parted c size rest part)

ends_last_at_end : (c : CutterState) (size : ℕ) → c.most < length c.waiting → IsPart c size → EndsLast c size []
ends_last_at_end c size more part p parted cuts =
    (λ n near. omega (arith, near_place_at_end p parted c cuts n more near, part.place), is_near p parted c size [] part)

pub next_part : {E : Type 0} (c : CutterState) (r : Result (Option ℕ) E)
    → c.most < length c.waiting → IsPastDoubt c → IfOk r (λ o. IfSome o (IsPart c)) → IfOk r (λ o. IfSome o (IsNextPart c))
next_part c (Err e) more past h = tt
next_part c (Ok None) more past h = tt
next_part c (Ok (Some size)) more past h = (h, λ rest. ends_last c size rest more past h, more)

pub next_part_at_end : {E : Type 0} (c : CutterState) (r : Result (Option ℕ) E)
    → c.most < length c.waiting → IfOk r (λ o. IfSome o (IsPart c)) → IfOk r (λ o. IfSome o (IsNextPartAtEnd c))
next_part_at_end c (Err e) more h = tt
next_part_at_end c (Ok None) more h = tt
next_part_at_end c (Ok (Some size)) more h = (h, ends_last_at_end c size more h, more)

no_part : (c : CutterState) (n : ℕ)
    → IsInReach c → (0 < c.place → c.place < c.begin + length c.waiting) → HasNoPart c → c.begin < n → n ≤ c.place → ⊥
no_part c n reach before (inl low) after last = omega (arith, low, after, last)
no_part c n reach before (inr (some, inl far)) after last = omega (arith, reach, far)
no_part c n reach before (inr (some, inr all)) after last = omega (arith, before (omega (arith, some)), all)

pub ends_nowhere : (c : CutterState) (rest : List Entry)
    → c.most < length c.waiting → IsPastDoubt c → IsInReach c → HasNoPart c → EndsNowhere c rest
ends_nowhere c rest more past reach none p parted cuts n near =
    no_part c n reach (never_after p parted c cuts) none near.0 (near_place p parted c cuts rest n more past near)

pub ends_nowhere_at_end : (c : CutterState) → c.most < length c.waiting → IsInReach c → HasNoPart c → EndsNowhere c []
ends_nowhere_at_end c more reach none p parted cuts n near =
    no_part c n reach (never_after p parted c cuts) none near.0 (near_place_at_end p parted c cuts n more near)
