-- The entry of a label and an SDI, looked up and sought.
use Rattle.std.proofs.Common.{◌≡◌, ℕ, List, [], ◌∷◌, ◌++◌, Bool, true, false, ◌&&◌, ◌||◌, ◌==◌, Option, Some, None, if◌then◌else◌, refl, sym, ap, ◌∙◌}
use Rattle.std.specs.List.{find}
use Rattle.std.specs.Map.{lookup}
use Rattle.std.proofs.lemmas.Bool.{and_parts, or_parts, eqb-true}
use Rattle.a429_profile.specs.declared.codes.Codes.{Codes}
use Rattle.a429_profile.specs.declared.entry.LabelEntry.{LabelEntry}
use Rattle.a429_profile.specs.declared.fault.ProfileFault.{ProfileFault}
use Rattle.a429_profile.specs.declared.fault.ProfileFault.TheVariants.{LabelClash}
use Rattle.a429_profile.specs.Fault.{first_or}
use Rattle.a429_profile.specs.Key.{first_section_fault}
use Rattle.a429_profile.specs.Codes.{codes_of}
use Rattle.a429_profile.specs.Labels.{labels_fault, labels_of}
use Rattle.a429_profile.specs.Clash.{sdis_meet, entries_meet, label_clashes, label_clash_after, code_clash, bit_clash, first_clash}
use Rattle.a429_profile.proofs.Apart.{MeetsNone, meets_none-first}
use Rattle.a429_profile.specs.Profile.{Contents, IsProfile, section_keys, is_for, Kept, entries_of, AreKeyed, ApartAfter}

-- ---- entries that clash with none before them

pub not_some : (b : Bool) (f : ProfileFault) (rest : Option ProfileFault)
    → (if b then Some f else rest) ≡ None → (b ≡ false) × (rest ≡ None)
not_some true f rest h = absurd (cc)
not_some false f rest h = (refl, h)

pub ApartAfter-no_clash : (c : Codes) (earlier es : List LabelEntry) → label_clash_after c earlier es ≡ None → ApartAfter earlier es
ApartAfter-no_clash c earlier [] h = tt
ApartAfter-no_clash c earlier (e ∷ es) h =
    let parts = not_some (label_clashes c earlier e) (LabelClash e.label) (label_clash_after c (earlier ++ e ∷ []) es) h in
    ((or_parts ((e.label == c.to_sink) || (e.label == c.to_source)) _ parts.0).1, ApartAfter-no_clash c (earlier ++ e ∷ []) es parts.1)

abbrev pub Apart : List LabelEntry → Type 0
Apart [] = Unit {0}
Apart (e ∷ es) = MeetsNone entries_meet e es × Apart es

pub apart_of : (earlier es : List LabelEntry) → ApartAfter earlier es → Apart es
apart_of earlier [] h = tt
apart_of earlier (e ∷ es) h = (meets_none-first entries_meet earlier e es h, apart_of (earlier ++ e ∷ []) es h.1)

-- ---- two look-ups, and a search

abbrev pub or_else : Option LabelEntry → Option LabelEntry → Option LabelEntry
or_else (Some e) other = Some e
or_else None other = other

-- the tests of a label with no SDI stated, and of a label with this SDI
pub record AreTests (label sdi : ℕ) (open_at stated_at : ℕ × Option ℕ → Bool) : Type 0 where
  pub open_none : (l : ℕ) → open_at (l, None) ≡ (label == l)
  pub open_some : (l s : ℕ) → open_at (l, Some s) ≡ false
  pub stated_none : (l : ℕ) → stated_at (l, None) ≡ false
  pub stated_some : (l s : ℕ) → stated_at (l, Some s) ≡ ((label == l) && (sdi == s))

pub and_true_false : (a b : Bool) → b ≡ true → (a && b) ≡ false → a ≡ false
and_true_false true b e h = absurd (cc)
and_true_false false b e h = refl

meets_open : (o : Option ℕ) → sdis_meet o None ≡ true
meets_open None = refl
meets_open (Some s) = refl

module _ (label sdi : ℕ) (open_at stated_at : ℕ × Option ℕ → Bool) (tests : AreTests label sdi open_at stated_at) where
  -- an entry that meets one of this label with no SDI stated
  not_open : (e : LabelEntry)
      → label ≡ e.label → (l : ℕ) (o : Option ℕ) → ((e.label == l) && sdis_meet e.sdi o) ≡ false → open_at (l, o) ≡ false
  not_open e same l None h =
      tests.open_none l ∙ ap (λ x. x == l) same ∙ and_true_false (e.label == l) (sdis_meet e.sdi None) (meets_open e.sdi) h
  not_open e same l (Some s) h = tests.open_some l s

  none_open : (e : LabelEntry)
      → label ≡ e.label → (ks : List Kept) → AreKeyed ks → MeetsNone entries_meet e (entries_of ks) → lookup open_at ks ≡ None
  none_open e same [] keyed meets = refl
  none_open e same (k ∷ ks) keyed meets =
      let closed : open_at k.0 ≡ false = ap open_at keyed.0 ∙ not_open e same k.1.label k.1.sdi meets.0 in
      rw closed (none_open e same ks keyed.1 meets.1)

  step_open : (b : Bool) (v : LabelEntry) (found first second : Option LabelEntry) → found ≡ or_else first second
      → (if b && true then Some v else found) ≡ or_else (if b then Some v else first) second
  step_open true v found first second h = refl
  step_open false v found first second h = h

  step_stated : (b : Bool) (v : LabelEntry) (found first second : Option LabelEntry)
      → found ≡ or_else first second → (b ≡ true → first ≡ None)
      → (if b then Some v else found) ≡ or_else first (if b then Some v else second)
  step_stated true v found first second h none = rw (none refl) refl
  step_stated false v found first second h none = h

  step : (l : ℕ) (o : Option ℕ) (v : LabelEntry) (found first second : Option LabelEntry)
      → found ≡ or_else first second → (label ≡ l → first ≡ None)
      → (if (label == l) && sdis_meet (Some sdi) o then Some v else found)
      ≡ or_else (if open_at (l, o) then Some v else first) (if stated_at (l, o) then Some v else second)
  step l None v found first second h none = rw (tests.open_none l, tests.stated_none l) (step_open (label == l) v found first second h)
  step l (Some s) v found first second h none =
      rw (tests.open_some l s, tests.stated_some l s)
      (step_stated ((label == l) && (sdi == s)) v found first second h
      (λ e. none (eqb-true label l (and_parts (label == l) (sdi == s) e).0)))

  -- the entry sought is that of the label with no SDI stated, or else that with this SDI
  sought : (ks : List Kept)
      → AreKeyed ks → Apart (entries_of ks) → find (is_for label sdi) (entries_of ks) ≡ or_else (lookup open_at ks) (lookup stated_at ks)
  sought [] keyed apart = refl
  sought (k ∷ ks) keyed apart =
      rw keyed.0 (step k.1.label k.1.sdi k.1 _ _ _ (sought ks keyed.1 apart.1) (λ e. none_open k.1 e ks keyed.1 apart.0))

pub find-is_for : (label sdi : ℕ) (open_at stated_at : ℕ × Option ℕ → Bool) → AreTests label sdi open_at stated_at → (ks : List Kept)
    → AreKeyed ks → ApartAfter [] (entries_of ks)
    → find (is_for label sdi) (entries_of ks) ≡ or_else (lookup open_at ks) (lookup stated_at ks)
find-is_for label sdi open_at stated_at tests ks keyed apart =
    sought label sdi open_at stated_at tests ks keyed (apart_of [] (entries_of ks) apart)

-- a test of a label with this SDI
stated_test : ℕ → ℕ → ℕ × Option ℕ → Bool
stated_test label sdi (l, None) = false
stated_test label sdi (l, Some s) = (label == l) && (sdi == s)

-- what the first look-up found
pub find-open : (label sdi : ℕ) (open_at : ℕ × Option ℕ → Bool) → ((l : ℕ) → open_at (l, None) ≡ (label == l))
    → ((l s : ℕ) → open_at (l, Some s) ≡ false)
    → (ks : List Kept) → AreKeyed ks → ApartAfter [] (entries_of ks) → (e : LabelEntry) → Some e ≡ lookup open_at ks
    → Some e ≡ find (is_for label sdi) (entries_of ks)
unfolding stated_test
find-open label sdi open_at none some ks keyed apart e h =
    let tests : AreTests label sdi open_at (stated_test label sdi) =
    record { open_none = none; open_some = some; stated_none = λ l. refl; stated_some = λ l s. refl } in
    ap (λ o. or_else o (lookup (stated_test label sdi) ks)) h
    ∙ sym (find-is_for label sdi open_at (stated_test label sdi) tests ks keyed apart)

-- what the second look-up found, where the first found nothing
pub find-stated : (label sdi : ℕ) (open_at stated_at : ℕ × Option ℕ → Bool) → AreTests label sdi open_at stated_at
    → (ks : List Kept) → AreKeyed ks → ApartAfter [] (entries_of ks) → (r : Option LabelEntry) → None ≡ lookup open_at ks
    → r ≡ lookup stated_at ks → r ≡ find (is_for label sdi) (entries_of ks)
find-stated label sdi open_at stated_at tests ks keyed apart r none h =
    h ∙ ap (λ o. or_else o (lookup stated_at ks)) none ∙ sym (find-is_for label sdi open_at stated_at tests ks keyed apart)

-- ---- what a profile's document says of its clashes

pub first_or_none : (a b : Option ProfileFault) → first_or a b ≡ None → (a ≡ None) × (b ≡ None)
first_or_none (Some f) b h = absurd (cc)
first_or_none None b h = (refl, h)

-- nothing in a profile clashes
pub no_clash : (contents : Contents) → IsProfile contents → first_clash contents.codes contents.labels ≡ None
no_clash contents p =
    let doc = p.0 in
    let faults =
    first_or_none (first_section_fault doc section_keys) (first_or (labels_fault doc) (first_clash (codes_of doc) (labels_of doc))) p.1 in
    rw p.2 (first_or_none (labels_fault doc) (first_clash (codes_of doc) (labels_of doc)) faults.1).1

pub ApartAfter-first_clash : (c : Codes) (es : List LabelEntry) → first_clash c es ≡ None → ApartAfter [] es
ApartAfter-first_clash c es h =
    ApartAfter-no_clash c [] es (first_or_none (label_clash_after c [] es) (first_or (code_clash c) (bit_clash es)) h).0

pub ApartAfter-IsProfile : (contents : Contents) → IsProfile contents → ApartAfter [] contents.labels
ApartAfter-IsProfile contents p = ApartAfter-first_clash contents.codes contents.labels (no_clash contents p)
