-- What is answered of the parts of a recording, part after part.
use Rattle.std.proofs.Common.{◌≡◌, ◌≢◌, ◌∙◌, ◌<◌, ◌+◌, ◌++◌, ◌∷◌, ℕ, zero, suc, List, [], length, take, get_or, slice_get, Bool, true, false, Option, Some, None, refl, sym, ap, subst, arith, inl, inr}
use Rattle.std.specs.Prelude.{IfSome, IfOk, IfErr, OnOk, Result, Ok, Err}
use Rattle.a429_commands.specs.declared.engines.series.SeriesAnswer.{SeriesAnswer}
use Rattle.a429_commands.specs.declared.engines.series.SeriesAnswer.TheVariants as answer
use Rattle.std.proofs.lemmas.List.{map-append, take_all, take_more}
use Rattle.std.proofs.lemmas.Option.{same_Some}
use Rattle.a429_profile.specs.Profile.{Contents}
use Rattle.a429_record.specs.declared.fault.ReadFault.TheVariants as read
use Rattle.a429_record.specs.Recording.{Recording}
use Rattle.a429_cert.specs.declared.fault.CertFault.{CertFault}
use Rattle.a429_cert.specs.declared.stream_fault.StreamFault.{StreamFault}
use Rattle.a429_cert.specs.declared.stream_fault.StreamFault.TheVariants as stream
use Rattle.a429_cert.specs.Series.{AreAdded, IsOneRun, IsPartFault, Joins, Part, RefusesPart, SeriesValue, joined, no_parts}
use Rattle.a429_commands.specs.declared.fault.RunFault.{RunFault}
use Rattle.a429_commands.specs.Profile.{IsProfileOf}
use Rattle.a429_commands.specs.PartList.{ListsParts}
use Rattle.a429_commands.specs.Verdict.{of_stream}
use Rattle.a429_commands.specs.Series.{AnswersSeries, AreListedRun, AreOneRun, FitAs, Holds, IsListFault, IsMiscounted, IsPartsAnswer, IsPartsFault, IsRefusal, IsRefusedAt, IsSeriesAnswer, IsSeriesFault, SeriesInput, IsSeriesVerdict, IsStopOf, entries_of, first_parts, of_series, part_causes, series_causes, status_of_series, text_of_series, with_part}
use Rattle.a429_commands.proofs.EndsFacts.{Bears}
use Rattle.a429_commands.proofs.FaultFacts.{comes_by}

-- ---- what the readers of a part have to read

pub joins_known : (o : Option Part) (known : Option (List ℕ)) (rec : Option Recording) (old new : SeriesValue)
    → IfSome o (λ q. Holds q known rec) → Joins old known rec new → IfSome o (λ q. Joins old (Some q.certificate) (Some q.recording) new)
joins_known None known rec old new h j = tt
joins_known (Some q) known rec old new h j = subst (λ k. Joins old k (Some q.recording) new) h.0 (subst (λ r. Joins old known r new) h.1 j)

pub refuses_known : (o : Option Part) (known : Option (List ℕ)) (rec : Option Recording) (old : SeriesValue) (f : StreamFault)
    → IfSome o (λ q. Holds q known rec) → RefusesPart old known rec f → IfSome o (λ q. IsPartFault old f q.certificate q.recording)
refuses_known None known rec old f h j = tt
refuses_known (Some q) known rec old f h j =
    subst (λ k. RefusesPart old k (Some q.recording) f) h.0 (subst (λ r. RefusesPart old known r f) h.1 j)

pub all_known : (o : Option Part) (known : Option (List ℕ)) (rec : Option Recording) (old : SeriesValue)
    (r : Result SeriesValue StreamFault)
    → IfSome o (λ q. Holds q known rec) → IfOk r (Joins old known rec)
    → IfOk r (λ new. IfSome o (λ q. Joins old (Some q.certificate) (Some q.recording) new))
all_known o known rec old (Ok new) h j = joins_known o known rec old new h j
all_known o known rec old (Err f) h j = tt

pub none_known : (o : Option Part) (known : Option (List ℕ)) (rec : Option Recording) (old : SeriesValue)
    (r : Result SeriesValue StreamFault)
    → IfSome o (λ q. Holds q known rec) → IfErr r (RefusesPart old known rec)
    → IfErr r (λ f. IfSome o (λ q. IsPartFault old f q.certificate q.recording))
none_known o known rec old (Ok new) h j = tt
none_known o known rec old (Err f) h j = refuses_known o known rec old f h j

-- ---- unless something has failed

pub added_ok : (failed : Bool) (a r : Result SeriesValue StreamFault) (P : SeriesValue → Type 0)
    → IfOk r (λ new. (failed ≡ false) × (a ≡ Ok new)) → IfOk a P → IfOk r P
added_ok failed a (Ok new) P h j = subst (λ (x : Result SeriesValue StreamFault). IfOk x P) h.1 j
added_ok failed a (Err f) P h j = tt

refuses_device : (old : SeriesValue) (known : Option (List ℕ)) (rec : Option Recording) → RefusesPart old known rec stream.Device
refuses_device old None rec = tt
refuses_device old (Some text) None = tt
refuses_device old (Some text) (Some r) = tt

pub added_err : (failed : Bool) (a r : Result SeriesValue StreamFault) (old : SeriesValue) (known : Option (List ℕ))
    (rec : Option Recording) → IfErr r (IsStopOf failed a) → IfErr a (RefusesPart old known rec) → IfErr r (RefusesPart old known rec)
added_err failed a (Ok new) old known rec h j = tt
added_err failed a (Err f) old known rec (inl h) j = subst (RefusesPart old known rec) (sym h.1) (refuses_device old known rec)
added_err failed a (Err f) old known rec (inr h) j =
    subst (λ (x : Result SeriesValue StreamFault). IfErr x (RefusesPart old known rec)) h.1 j

pub works_ok : (failed now : Bool) (a r : Result SeriesValue StreamFault)
    → failed ≡ now → IfOk r (λ new. (failed ≡ false) × (a ≡ Ok new)) → IfOk r (λ _. now ≡ false)
works_ok failed now a (Ok new) e h = sym e ∙ h.0
works_ok failed now a (Err f) e h = tt

pub works_refused : (failed now : Bool) (a r : Result SeriesValue StreamFault)
    → failed ≡ now → IfErr r (IsStopOf failed a) → IfErr r (λ f. (g : CertFault) → f ≡ stream.Cert g → now ≡ false)
works_refused failed now a (Ok new) e h = tt
works_refused failed now a (Err f) e (inl h) = λ g is. absurd (cc (h.1, is))
works_refused failed now a (Err f) e (inr h) = λ g is. sym e ∙ h.0

pub stop_failed : (failed now : Bool) (a r : Result SeriesValue StreamFault) (f : StreamFault)
    → failed ≡ now → IfErr r (IsStopOf failed a) → (a ≡ Err f → now ≡ true) → r ≡ Err f → now ≡ true
stop_failed failed now a (Ok new) f e h why is = absurd (cc is)
stop_failed failed now a (Err g) f e (inl h) why is = sym e ∙ h.0
stop_failed failed now a (Err g) f e (inr h) why is = why (cc (h.1, is))

-- ---- one part more

added_more : (s t u : SeriesValue) (parts : List Part) (q : Part)
    → AreAdded s parts t → Joins t (Some q.certificate) (Some q.recording) u → AreAdded s (parts ++ (q ∷ [])) u
added_more s t u [] q a j = (u, subst (λ old. Joins old (Some q.certificate) (Some q.recording) u) a j, refl)
added_more s t u (first ∷ parts) q a j = (a.0, a.1, added_more a.0 t u parts q a.2 j)

fit_more : (p : Contents) (counts : List ℕ) (s new : SeriesValue) (before : Option (List Part)) (last : Option Part)
    → IfSome before (λ parts. FitAs p parts counts s) → IfSome last (λ q. Joins s (Some q.certificate) (Some q.recording) new)
    → IfSome (with_part before last) (λ parts. FitAs p parts (counts ++ (new.entries ∷ [])) new)
fit_more p counts s new None last h j = tt
fit_more p counts s new (Some parts) None h j = tt
fit_more p counts s new (Some parts) (Some q) h j =
    record {
      added = added_more (no_parts p) s new parts q h.added j;
      counted = map-append entries_of parts (q ∷ []) ∙ rw (h.counted, j.fits.entries) refl;
    }

pub refusal_works : (r : Result SeriesAnswer RunFault) (place : ℕ) (f : StreamFault) (Works : Type 0)
    → IfOk r (IsRefusal place f) → ((g : CertFault) → f ≡ stream.Cert g → Works) → OnOk r Works
refusal_works (Ok a) place f Works h works = works h.0 h.2
refusal_works (Err e) place f Works h works = tt

-- what is at the next place
pub at_next : (part other : ℕ → Option Part) (place i : ℕ) (Q : Part → Type 0) → other ≡ part → place ≡ i → IfSome (other (place + 1)) Q
    → IfSome (part (suc i)) Q
at_next part other place i Q e f h =
    let next : place + 1 ≡ suc i = omega (arith, f) in
    subst (λ (k : ℕ). IfSome (part k) Q) next (subst (λ (g : ℕ → Option Part). IfSome (g (place + 1)) Q) e h)

slice_here : (xs : List ℕ) (i : ℕ) → i < length xs → slice_get xs i ≡ Some (get_or xs i 0)
slice_here [] i h = absurd (omega (arith, h))
slice_here (x ∷ xs) zero h = refl
slice_here (x ∷ xs) (suc i) h = slice_here xs i (omega (arith, h))

module _ (p : Contents) (part : ℕ → Option Part) (counts : List ℕ) where
  -- so many parts fit
  abbrev pub SoFar : ℕ → SeriesValue → Type 0
  SoFar i s = IfSome (first_parts part i) (λ parts. FitAs p parts (take i counts) s)

  pub one_more : (i : ℕ) (s new : SeriesValue)
      → SoFar i s → IfSome (part (suc i)) (λ q. Joins s (Some q.certificate) (Some q.recording) new)
      → IfSome (first_parts part (suc i)) (λ parts. FitAs p parts (take i counts ++ (new.entries ∷ [])) new)
  one_more i s new h j = fit_more p (take i counts) s new (first_parts part i) (part (suc i)) h j

  pub goes_on : (i : ℕ) (s new : SeriesValue) → i < length counts → new.entries ≡ get_or counts i 0 → SoFar i s
      → IfSome (part (suc i)) (λ q. Joins s (Some q.certificate) (Some q.recording) new) → SoFar (i + 1) new
  goes_on i s new inside same h j =
      let next : i + 1 ≡ suc i = omega arith in
      let more : take (suc i) counts ≡ take i counts ++ (get_or counts i 0 ∷ []) =
      subst (λ (k : ℕ). take k counts ≡ take i counts ++ (get_or counts i 0 ∷ [])) next (take_more counts i 0 inside) in
      subst (λ (k : ℕ). SoFar k new) (sym next)
      (subst (λ (l : List ℕ). IfSome (first_parts part (suc i)) (λ parts. FitAs p parts l new))
      (ap (λ n. take i counts ++ (n ∷ [])) same ∙ sym more) (one_more i s new h j))

  pub miscounted : (i : ℕ) (s new : SeriesValue) → i < length counts → slice_get counts i ≢ Some new.entries → SoFar i s
      → IfSome (part (suc i)) (λ q. Joins s (Some q.certificate) (Some q.recording) new) → IsMiscounted p part counts (suc i) new.entries
  miscounted i s new inside other h j =
      record { before = i; next = refl; listed = inside; other = other; fit = fitting (first_parts part (suc i)) (one_more i s new h j) }
    where
      fitting : (o : Option (List Part)) → IfSome o (λ parts. FitAs p parts (take i counts ++ (new.entries ∷ [])) new)
          → IfSome o (λ parts. (t : SeriesValue) × FitAs p parts (take i counts ++ (new.entries ∷ [])) t)
      fitting None h = tt
      fitting (Some parts) h = (new, h)

  pub refused_here : (i : ℕ) (s : SeriesValue) (f : StreamFault) → i < length counts → SoFar i s
      → IfSome (part (suc i)) (λ q. IsPartFault s f q.certificate q.recording) → IsRefusedAt p part counts (suc i) f
  refused_here i s f inside h j =
      record { before = i; next = refl; listed = inside; refused = both (first_parts part i) (part (suc i)) h j }
    where
      both : (before : Option (List Part)) (last : Option Part)
          → IfSome before (λ parts. FitAs p parts (take i counts) s) → IfSome last (λ q. IsPartFault s f q.certificate q.recording)
          → IfSome before
          (λ parts. IfSome last (λ q. (t : SeriesValue) × FitAs p parts (take i counts) t × IsPartFault t f q.certificate q.recording))
      both None last h j = tt
      both (Some parts) None h j = tt
      both (Some parts) (Some q) h j = (s, h, j)

  pub refused_at : (place i : ℕ) (s : SeriesValue) (f : StreamFault) → place ≡ i → i < length counts → SoFar i s
      → IfSome (part (suc i)) (λ q. IsPartFault s f q.certificate q.recording) → IsRefusedAt p part counts (place + 1) f
  refused_at place i s f e inside h j =
      let next : place + 1 ≡ suc i = omega (arith, e) in
      subst (λ (k : ℕ). IsRefusedAt p part counts k f) (sym next) (refused_here i s f inside h j)

  pub miscounted_at : (place i n : ℕ) (s new : SeriesValue) → place ≡ i → n ≡ new.entries → i < length counts → (n ≡ get_or counts i 0 → ⊥)
      → SoFar i s → IfSome (part (suc i)) (λ q. Joins s (Some q.certificate) (Some q.recording) new)
      → IsMiscounted p part counts (place + 1) n
  miscounted_at place i n s new e same inside other h j =
      let next : place + 1 ≡ suc i = omega (arith, e) in
      let here = miscounted i s new inside (λ g. other (same ∙ same_Some _ _ (sym g ∙ slice_here counts i inside))) h j in
      subst (λ (k : ℕ). IsMiscounted p part counts k n) (sym next) (subst (λ (m : ℕ). IsMiscounted p part counts (suc i) m) (sym same) here)

  -- the answer where a part is refused
  pub refusal_answers : (r : Result SeriesAnswer RunFault) (place : ℕ) (f : StreamFault)
      → IfOk r (IsRefusal place f) → IsRefusedAt p part counts place f → IfOk r (IsPartsAnswer p part counts)
  refusal_answers (Ok a) place f h here =
      subst (IsPartsAnswer p part counts) (sym h.1) (subst (IsRefusedAt p part counts place) h.2 here, h.3)
  refusal_answers (Err e) place f h here = tt

  pub refusal_faults : (Failed : Type 0) (r : Result SeriesAnswer RunFault) (f : StreamFault)
      → IfErr r (λ e. e ≡ of_stream f) → IsPartsFault p part counts Failed (of_stream f) → IfErr r (IsPartsFault p part counts Failed)
  refusal_faults Failed (Ok a) f h here = tt
  refusal_faults Failed (Err e) f h here = subst (IsPartsFault p part counts Failed) (sym h) here

  pub all_fit : (s : SeriesValue)
      → ((parts : List Part) (t : SeriesValue) → AreAdded (no_parts p) parts t → IsOneRun p (joined parts) t.files)
      → SoFar (length counts) s → AreListedRun p part counts s.files
  all_fit s law h = by (first_parts part (length counts)) h
    where
      by : (o : Option (List Part))
          → IfSome o (λ parts. FitAs p parts (take (length counts) counts) s) → IfSome o (λ parts. AreOneRun p parts counts s.files)
      by None h = tt
      by (Some parts) h = record {
        last = s;
        fit = subst (λ (l : List ℕ). FitAs p parts l s) (take_all (length counts) counts (omega arith)) h;
        crossed = refl;
        one = law parts s h.added;
      }

  -- ---- a fault, as a command reports it

  pub by_part : (Failed : Type 0) (place : ℕ) (f : StreamFault) → IsRefusedAt p part counts place f → (f ≡ stream.Device → Failed)
      → (f ≡ stream.Read read.Device → Failed) → IsPartsFault p part counts Failed (of_stream f)
  by_part Failed place f here a b = by f here a b
    where
      by : (f : StreamFault) → IsRefusedAt p part counts place f → (f ≡ stream.Device → Failed) → (f ≡ stream.Read read.Device → Failed)
          → IsPartsFault p part counts Failed (of_stream f)
      by (stream.Cert f) here a b = tt
      by (stream.Read read.Header) here a b = (refl, (place, here))
      by (stream.Read (read.Row n)) here a b = (refl, (place, here))
      by (stream.Read (read.TimeBack n)) here a b = (refl, (place, here))
      by (stream.Read read.TooMany) here a b = (refl, (place, here))
      by (stream.Read read.Failed) here a b = (refl, (place, here))
      by (stream.Read read.Device) here a b = b refl
      by (stream.Read read.OutOfMemory) here a b = tt
      by stream.Device here a b = a refl
      by stream.OutOfMemory here a b = tt

-- ---- parts that a list names

listed_answer : (p : Contents) (list : List ℕ) (part : ℕ → Option Part) (counts : List ℕ) (a : SeriesAnswer) → ListsParts list counts
    → IsPartsAnswer p part counts a → IsSeriesAnswer p list part a
listed_answer p list part counts (answer.Files files) listed h = (counts, listed, h)
listed_answer p list part counts (answer.Refused place f) listed h = (counts, listed, h)
listed_answer p list part counts (answer.Miscounted place n) listed h = (counts, listed, h)
listed_answer p list part counts answer.NotListed listed h = absurd h

pub answer_of_list : (p : Contents) (list : List ℕ) (part : ℕ → Option Part) (counts : List ℕ) (r : Result SeriesAnswer RunFault)
    → ListsParts list counts → IfOk r (IsPartsAnswer p part counts) → IfOk r (IsSeriesAnswer p list part)
answer_of_list p list part counts (Ok a) listed h = listed_answer p list part counts a listed h
answer_of_list p list part counts (Err e) listed h = tt

pub fault_of_list : (p : Contents) (list : List ℕ) (part : ℕ → Option Part) (counts : List ℕ) (Failed : Type 0)
    (r : Result SeriesAnswer RunFault)
    → ListsParts list counts → IfErr r (IsPartsFault p part counts Failed) → IfErr r (IsListFault p list part Failed)
fault_of_list p list part counts Failed (Ok a) listed h = tt
fault_of_list p list part counts Failed (Err e) listed h = inr (counts, listed, h)

-- ---- why there is no verdict

by_parts : (i : SeriesInput) (Failed : Type 0) (p : Contents) (counts : List ℕ) (e : RunFault)
    → IsProfileOf i.profile p → ListsParts i.list counts → IsPartsFault p i.part counts Failed e → IsSeriesFault i Failed e
by_parts i Failed p counts e is listed = comes_by (part_causes p i.part counts Failed) (series_causes i Failed)
    (record {
      profile = λ f h. absurd h;
      recording = λ f h. (h.0, (p, counts, h.1.0, is, listed, h.1.1));
      file = λ k f h. absurd h;
      too_long = λ h. absurd h;
      no_place = λ h. absurd h;
      device = λ h. ((p, is), h);
      memory = λ h. is.0;
    }) e

by_list : (i : SeriesInput) (Failed : Type 0) (p : Contents) (e : RunFault)
    → IsProfileOf i.profile p → IsListFault p i.list i.part Failed e → IsSeriesFault i Failed e
by_list i Failed p e is (inl memory) = subst (IsSeriesFault i Failed) (sym memory) is.0
by_list i Failed p e is (inr h) = by_parts i Failed p h.0 e is h.1 h.2

pub answer_of_profile : (i : SeriesInput) (p : Contents) (r : Result SeriesAnswer RunFault)
    → IsProfileOf i.profile p → IfOk r (IsSeriesAnswer p i.list i.part) → IfOk r (AnswersSeries i)
answer_of_profile i p (Ok a) is h = (p, is, h)
answer_of_profile i p (Err e) is h = tt

pub fault_of_profile : (i : SeriesInput) (p : Contents) (Failed : Type 0) (r : Result SeriesAnswer RunFault)
    → IsProfileOf i.profile p → IfErr r (IsListFault p i.list i.part Failed) → IfErr r (IsSeriesFault i Failed)
fault_of_profile i p Failed (Ok a) is h = tt
fault_of_profile i p Failed (Err e) is h = by_list i Failed p e is h

-- ---- a verdict

verdict_of : (i : SeriesInput) (a : SeriesAnswer) → AnswersSeries i a → IsSeriesVerdict i (status_of_series a) (text_of_series a)
verdict_of i a here = record { answer = a; is = here; status_is = refl; text_is = refl }

-- the verdict is as promised
pub verdict_bears : (i : SeriesInput) (before after : Bool) (a : SeriesAnswer) → AnswersSeries i a → (before ≡ false → after ≡ false)
    → Bears (of_series i before after) (λ status text. (status ≡ status_of_series a) × (text ≡ text_of_series a))
    (λ text. text ≡ text_of_series a) ⊥
verdict_bears i before after a is works = record {
  says = λ status text here. (rw (here.0, here.1) (verdict_of i a is), works);
  begins = λ text here. ((status_of_series a, rw here (verdict_of i a is)), works);
  no_room = λ e. absurd e;
}
