-- Counts of entries, one more at a time.
use Rattle.std.proofs.Common.{◌≡◌, ◌≢◌, ℕ, zero, suc, ◌+◌, ◌-◌, ◌^◌, ◌%◌, ◌<◌, ◌≤◌, ◌==◌, min, Bool, true, false, cond, not, List, [], ◌∷◌, ◌++◌, length, length-append, get_or, set, inl, inr, codes, Option, Some, None, ◌&&◌, refl, sym, ap, ◌∙◌, subst, arith}
use Rattle.std.specs.Prelude.{filter, flat_map}
use Rattle.std.specs.List.{list_any}
use Rattle.std.specs.Fmt.{decimal}
use Rattle.std.proofs.lemmas.Bool.{cases_Bool}
use Rattle.std.proofs.lemmas.Bool.Decides.{nat_tests}
use Rattle.std.proofs.lemmas.List.{get_or-set_same, get_or-set_other, length-set}
use Rattle.a429_word.specs.Word.{count_of_ones, label_of, number_at}
use Rattle.a429_word.specs.Digits.{octal_text}
use Rattle.a429_word.specs.Bus.{bus_text}
use Rattle.a429_word.specs.declared.bus.Bus.{Bus}
use Rattle.a429_word.specs.declared.bus.Bus.TheVariants as bus
use Rattle.a429_word.proofs.CountFacts.{filter_yes, filter_no, filter_short, one_more}
use Rattle.a429_profile.specs.declared.codes.Codes.{Codes}
use Rattle.a429_ldu.specs.declared.forms.Form.{Form}
use Rattle.a429_ldu.specs.declared.forms.Form.TheVariants as form
use Rattle.a429_ldu.specs.declared.freedom.Freedom.{Freedom}
use Rattle.a429_ldu.specs.declared.freedom.Freedom.TheVariants.{BadParity, OtherLabel, IgnoredType, IgnoredCode}
use Rattle.a429_ldu.specs.Across.{form_across}
use Rattle.a429_ldu.specs.Form.{address_of, form_of}
use Rattle.a429_record.specs.declared.entry.Entry.{Entry}
use Rattle.a429_view.specs.declared.survey.kind.WordKind.{WordKind}
use Rattle.a429_view.specs.declared.survey.kind.WordKind.TheVariants as kind
use Rattle.a429_view.specs.declared.survey.counts.Hits.{Hits}
use Rattle.a429_view.specs.declared.survey.counts.LabelCount.{LabelCount}
use Rattle.a429_view.specs.declared.survey.counts.BusCount.{BusCount}
use Rattle.a429_view.specs.declared.survey.Survey.{Survey}
use Rattle.a429_view.specs.Survey.{Numbered, numbered, kind_in, kind_of, kinds, on_bus, is_bus, of_kind, place, place_of, label_in, with_label, with_even_parity, is_even, last_time, IsHits, IsLabelCount, IsBusCount, IsSurvey, AreTimes, no_hits, no_label, name, times_line, kind_line, label_line, label_lines, bus_lines, survey_text, times_text, kind_text, label_text, counted_kind, counted_label, counted_labels, count_lines, text_of}

-- ---- a table of counts, by a key of what is counted

abbrev pub AreBy : {X H : Type 0} → (X → ℕ) → (H → List X → Type 0) → H → ℕ → List H → List X → Type 0
AreBy key Is none size table xs = (k : ℕ) → k < size → Is (get_or table k none) (filter (λ x. key x == k) xs)

pub by_more : {X H : Type 0} (key : X → ℕ) (Is : H → List X → Type 0) (none : H) (size : ℕ) (table : List H) (xs : List X) (x : X) (h : H)
    → length table ≡ size → key x < size
    → AreBy key Is none size table xs → Is h (filter (λ y. key y == key x) xs ++ x ∷ [])
    → AreBy key Is none size (set table (key x) h) (xs ++ x ∷ [])
by_more key Is none size table xs x h long inside before one k l = elim (cases_Bool (key x == k)) [
  | inl same ↦
      let at : k ≡ key x = grind (arith, nat_tests) in
      let here : get_or (set table (key x) h) k none ≡ h = rw at (get_or-set_same table (key x) h none (omega (arith, inside, long))) in
      let more : filter (λ y. key y == k) (xs ++ x ∷ []) ≡ filter (λ y. key y == key x) xs ++ x ∷ [] =
      filter_yes (λ y. key y == k) xs x same ∙ ap (λ j. filter (λ y. key y == j) xs ++ x ∷ []) at in
      rw (here, more) one
  | inr other ↦
      let apart : k ≢ key x = grind (arith, nat_tests) in
      rw (get_or-set_other table (key x) k h none apart, filter_no (λ y. key y == k) xs x other) (before k l)
]

-- ---- the counts of a kind and of a label

even_more : (xs : List Numbered) (x : Numbered)
    → length (with_even_parity (xs ++ x ∷ [])) ≡ length (with_even_parity xs) + cond (is_even x) 1 0
even_more xs x = elim (cases_Bool (is_even x)) [
  | inl here ↦ ap length (filter_yes is_even xs x here) ∙ length-append (filter is_even xs) (x ∷ []) ∙ rw here refl
  | inr passed ↦ ap length (filter_no is_even xs x passed) ∙ rw passed (omega arith)
]

pub label_more : (old new : LabelCount) (xs : List Numbered) (x : Numbered) → new.count ≡ min (old.count + 1) (2 ^ 64 - 1)
    → (is_even x ≡ true → new.even ≡ min (old.even + 1) (2 ^ 64 - 1)) → (is_even x ≡ false → new.even ≡ old.even)
    → length xs + 1 < 2 ^ 64 → IsLabelCount old xs → IsLabelCount new (xs ++ x ∷ [])
label_more old new xs x count even odd few h =
    let sum = length-append xs (x ∷ []) in
    let size : old.count ≡ length xs = h.0 in
    let evens : old.even ≡ length (with_even_parity xs) = h.1 in
    let short = filter_short is_even xs in
    let more = even_more xs x in (
      one_more new.count old.count (length xs) count size few ∙ sym sum,
      elim (cases_Bool (is_even x)) [
        | inl here ↦
            let one = rw here at more in
            one_more new.even old.even (length (with_even_parity xs)) (even here) evens (omega (arith, short, few)) ∙ sym one
        | inr passed ↦ let none = rw passed at more in let is = odd passed in omega (arith, none, is, evens)
      ],
    )

-- ---- the counts of a bus

pub bus_more : (c : Codes) (old new : BusCount) (xs : List Numbered) (x : Numbered) (at_kind at_label : ℕ) (hits : Hits)
    (label : LabelCount) → length xs + 1 < 2 ^ 64
    → at_kind ≡ place_of c x → at_label ≡ label_in x
    → new.entries ≡ min (old.entries + 1) (2 ^ 64 - 1) → new.kinds ≡ set old.kinds at_kind hits → new.labels ≡ set old.labels at_label label
    → place_of c x < 13 → label_in x < 256
    → ((ys : List Numbered) → length ys + 1 < 2 ^ 64 → IsHits (get_or old.kinds (place_of c x) no_hits) ys → IsHits hits (ys ++ x ∷ []))
    → ((ys : List Numbered) → length ys + 1 < 2 ^ 64 → IsLabelCount (get_or old.labels (label_in x) no_label) ys
    → IsLabelCount label (ys ++ x ∷ []))
    → IsBusCount c old xs → IsBusCount c new (xs ++ x ∷ [])
bus_more c old new xs x at_kind at_label hits label few is_kind is_label entries kinds labels place in_range hit lab h =
    let sum = length-append xs (x ∷ []) in
    let size : old.entries ≡ length xs = h.entries in
    let of_kind = filter (λ y. place_of c y == place_of c x) xs in
    let of_label = filter (λ y. label_in y == label_in x) xs in
    let short = filter_short (λ y. place_of c y == place_of c x) xs in
    let short' = filter_short (λ y. label_in y == label_in x) xs in
    record {
      entries = one_more new.entries old.entries (length xs) entries size few ∙ sym sum;
      kind_count = ap length kinds ∙ length-set old.kinds at_kind hits ∙ h.kind_count;
      kinds =
          rw (kinds, is_kind)
          (by_more (place_of c) IsHits no_hits 13 old.kinds xs x hits h.kind_count place h.kinds
          (hit of_kind (omega (arith, short, few)) (h.kinds (place_of c x) place)));
      label_count = ap length labels ∙ length-set old.labels at_label label ∙ h.label_count;
      labels =
          rw (labels, is_label)
          (by_more label_in IsLabelCount no_label 256 old.labels xs x label h.label_count in_range h.labels
          (lab of_label (omega (arith, short', few)) (h.labels (label_in x) in_range)));
    }

-- ---- the counts of a recording

numbered_more : (n : ℕ) (es : List Entry) (e : Entry)
    → numbered n (es ++ e ∷ []) ≡ numbered n es ++ record { number = n + length es; entry = e } ∷ []
numbered_more n [] e = let none : n + 0 ≡ n = omega arith in rw none refl
numbered_more n (x ∷ es) e =
    let sum : suc n + length es ≡ n + suc (length es) = omega arith in
    ap (λ ys. record { number = n; entry = x } ∷ ys)
    (numbered_more (suc n) es e ∙ ap (λ k. numbered (suc n) es ++ record { number = k; entry = e } ∷ []) sum)

numbered_all : (es : List Entry) (e : Entry) → numbered 0 (es ++ e ∷ []) ≡ numbered 0 es ++ record { number = length es; entry = e } ∷ []
numbered_all es e =
    let same : 0 + length es ≡ length es = omega arith in
    numbered_more 0 es e ∙ ap (λ k. numbered 0 es ++ record { number = k; entry = e } ∷ []) same

numbered_long : (n : ℕ) (es : List Entry) → length (numbered n es) ≡ length es
numbered_long n [] = refl
numbered_long n (x ∷ es) = ap suc (numbered_long (suc n) es)

pub on_bus_short : (b : Bus) (es : List Entry) → length (on_bus b (numbered 0 es)) ≤ length es
on_bus_short b es = let short = filter_short (λ x. is_bus b x.entry.bus) (numbered 0 es) in omega (arith, short, numbered_long 0 es)

pub on_bus_yes : (b : Bus) (es : List Entry) (e : Entry) → is_bus b e.bus ≡ true
    → on_bus b (numbered 0 (es ++ e ∷ [])) ≡ on_bus b (numbered 0 es) ++ record { number = length es; entry = e } ∷ []
on_bus_yes b es e here = ap (on_bus b) (numbered_all es e)
    ∙ filter_yes (λ x. is_bus b x.entry.bus) (numbered 0 es) (record { number = length es; entry = e }) here

pub on_bus_no : (b : Bus) (es : List Entry) (e : Entry)
    → is_bus b e.bus ≡ false → on_bus b (numbered 0 (es ++ e ∷ [])) ≡ on_bus b (numbered 0 es)
on_bus_no b es e passed = ap (on_bus b) (numbered_all es e)
    ∙ filter_no (λ x. is_bus b x.entry.bus) (numbered 0 es) (record { number = length es; entry = e }) passed

last_more : (time : ℕ) (es : List Entry) (e : Entry) → last_time time (es ++ e ∷ []) ≡ e.time
last_more time [] e = refl
last_more time (x ∷ es) e = last_more x.time es e

pub times_more : (old new : Survey) (es : List Entry) (e : Entry) → old.entries ≡ length es → (old.entries ≡ 0 → new.first ≡ e.time)
    → (old.entries ≢ 0 → new.first ≡ old.first) → new.last ≡ e.time → AreTimes old es → AreTimes new (es ++ e ∷ [])
times_more old new [] e size first later last h = (first size, last)
times_more old new (x ∷ es) e size first later last h = (later (λ none. absurd (cc (size, none))) ∙ h.0, last ∙ sym (last_more x.time es e))

abbrev Adds : Codes → BusCount → BusCount → ℕ → Entry → Type 0
Adds c old new number e = (xs : List Numbered)
    → length xs + 1 < 2 ^ 64 → IsBusCount c old xs → IsBusCount c new (xs ++ record { number = number; entry = e } ∷ [])

-- one more entry of a bus
added : (c : Codes) (b : Bus) (old new : BusCount) (n : ℕ) (es : List Entry) (e : Entry)
    → is_bus b e.bus ≡ true → n ≡ length es → length es + 1 < 2 ^ 64 → Adds c old new n e
    → IsBusCount c old (on_bus b (numbered 0 es)) → IsBusCount c new (on_bus b (numbered 0 (es ++ e ∷ [])))
added c b old new n es e here size few adds h =
    let short = on_bus_short b es in
    let more = adds (on_bus b (numbered 0 es)) (omega (arith, short, few)) h in
    subst (IsBusCount c new) (sym (on_bus_yes b es e here))
    (subst (λ k. IsBusCount c new (on_bus b (numbered 0 es) ++ record { number = k; entry = e } ∷ [])) size more)

passed_by : (c : Codes) (b : Bus) (old new : BusCount) (es : List Entry) (e : Entry) → is_bus b e.bus ≡ false → new ≡ old
    → IsBusCount c old (on_bus b (numbered 0 es)) → IsBusCount c new (on_bus b (numbered 0 (es ++ e ∷ [])))
passed_by c b old new es e passed same h =
    subst (λ q. IsBusCount c q (on_bus b (numbered 0 (es ++ e ∷ [])))) (sym same)
    (subst (IsBusCount c old) (sym (on_bus_no b es e passed)) h)

pub survey_a : (c : Codes) (old new : Survey) (es : List Entry) (e : Entry)
    → length es + 1 < 2 ^ 64 → e.bus ≡ bus.A → new.entries ≡ min (old.entries + 1) (2 ^ 64 - 1) → (old.entries ≡ 0 → new.first ≡ e.time)
    → (old.entries ≢ 0 → new.first ≡ old.first) → new.last ≡ e.time
    → new.b ≡ old.b → Adds c old.a new.a old.entries e → IsSurvey c old es → IsSurvey c new (es ++ e ∷ [])
survey_a c old new es e few on entries first later last same adds h = record {
  entries = one_more new.entries old.entries (length es) entries h.entries few ∙ sym (length-append es (e ∷ []));
  times = times_more old new es e h.entries first later last h.times;
  a = added c bus.A old.a new.a old.entries es e (ap (is_bus bus.A) on) h.entries few adds h.a;
  b = passed_by c bus.B old.b new.b es e (ap (is_bus bus.B) on) same h.b;
}

pub survey_b : (c : Codes) (old new : Survey) (es : List Entry) (e : Entry)
    → length es + 1 < 2 ^ 64 → e.bus ≡ bus.B → new.entries ≡ min (old.entries + 1) (2 ^ 64 - 1) → (old.entries ≡ 0 → new.first ≡ e.time)
    → (old.entries ≢ 0 → new.first ≡ old.first) → new.last ≡ e.time
    → new.a ≡ old.a → Adds c old.b new.b old.entries e → IsSurvey c old es → IsSurvey c new (es ++ e ∷ [])
survey_b c old new es e few on entries first later last same adds h = record {
  entries = one_more new.entries old.entries (length es) entries h.entries few ∙ sym (length-append es (e ∷ []));
  times = times_more old new es e h.entries first later last h.times;
  a = passed_by c bus.A old.a new.a es e (ap (is_bus bus.A) on) same h.a;
  b = added c bus.B old.b new.b old.entries es e (ap (is_bus bus.B) on) h.entries few adds h.b;
}

-- ---- the lines

pub times_text_some : (n first last : ℕ)
    → 0 < n → times_text n first last ≡ codes "from " ++ decimal first ++ codes " to " ++ decimal last ++ codes "\n"
times_text_some zero first last some = absurd (omega (arith, some))
times_text_some (suc n) first last some = refl

pub kind_text_some : (b : Bus) (k : WordKind) (n first : ℕ) → 0 < n
    → kind_text b k n first ≡ bus_text b ++ codes " " ++ name k ++ codes " " ++ decimal n ++ codes " first " ++ decimal first ++ codes "\n"
kind_text_some b k zero first some = absurd (omega (arith, some))
kind_text_some b k (suc n) first some = refl

pub label_text_some : (b : Bus) (label n even : ℕ) → 0 < n
    → label_text b label n even ≡ bus_text b ++ codes " label " ++ octal_text label ++ codes " " ++ decimal n ++ codes " even "
    ++ decimal even ++ codes "\n"
label_text_some b label zero even some = absurd (omega (arith, some))
label_text_some b label (suc n) even some = refl

pub counted_none : (b : Bus) (counts : List LabelCount) → counted_labels b 0 counts ≡ []
unfolding counted_labels
counted_none b counts = refl

pub counted_more : (b : Bus) (n : ℕ) (counts : List LabelCount)
    → counted_labels b (n + 1) counts ≡ counted_labels b n counts ++ counted_label b counts n
unfolding counted_labels
counted_more b n counts = let next : n + 1 ≡ suc n = omega arith in rw next refl

-- ---- the lines of counts are those of the entries

times_are : (s : Survey) (es : List Entry) → s.entries ≡ length es → AreTimes s es → times_text s.entries s.first s.last ≡ times_line es
times_are s [] size h = rw size refl
times_are s (e ∷ es) size h = rw (size, h.0, h.1) refl

kind_is : (b : Bus) (k : WordKind) (h : Hits) (xs : List Numbered) → IsHits h xs → kind_text b k h.count h.first ≡ kind_line b k xs
kind_is b k h [] is = rw is refl
kind_is b k h (x ∷ xs) is = rw (is.0, is.1) refl

label_is : (b : Bus) (label : ℕ) (l : LabelCount) (xs : List Numbered)
    → IsLabelCount l xs → label_text b label l.count l.even ≡ label_line b label xs
label_is b label l [] is = rw is.0 refl
label_is b label l (x ∷ xs) is = rw (is.0, is.1) refl

place_below : (k : WordKind) → place k < 13
place_below kind.Rts = omega arith
place_below kind.Cts = omega arith
place_below kind.Ack = omega arith
place_below kind.Nak = omega arith
place_below kind.Sot = omega arith
place_below kind.Data = omega arith
place_below kind.Eot = omega arith
place_below kind.Other = omega arith
place_below kind.NoForm = omega arith
place_below kind.FreeParity = omega arith
place_below kind.FreeLabel = omega arith
place_below kind.FreeType = omega arith
place_below kind.FreeCode = omega arith

kinds_are : (c : Codes) (b : Bus) (count : BusCount) (xs : List Numbered) → IsBusCount c count xs → (ks : List WordKind)
    → flat_map (counted_kind b count.kinds) ks ≡ flat_map (λ k. kind_line b k (of_kind c k xs)) ks
kinds_are c b count xs is [] = refl
kinds_are c b count xs is (k ∷ ks) =
    let here = kind_is b k (get_or count.kinds (place k) no_hits) (of_kind c k xs) (is.kinds (place k) (place_below k)) in
    rw (here, kinds_are c b count xs is ks) refl

labels_are : (c : Codes) (b : Bus) (count : BusCount) (xs : List Numbered)
    → IsBusCount c count xs → (n : ℕ) → n ≤ 256 → counted_labels b n count.labels ≡ label_lines b n xs
unfolding counted_labels label_lines
labels_are c b count xs is zero few = refl
labels_are c b count xs is (suc n) few =
    let here = label_is b n (get_or count.labels n no_label) (with_label n xs) (is.labels n (omega (arith, few))) in
    let before = labels_are c b count xs is n (omega (arith, few)) in
    rw (here, before) refl

bus_is : (c : Codes) (b : Bus) (count : BusCount) (xs : List Numbered) → IsBusCount c count xs → count_lines b count ≡ bus_lines c b xs
bus_is c b count xs is = rw (is.entries, kinds_are c b count xs is kinds, labels_are c b count xs is 256 (omega arith)) refl

-- the text of a survey is that of the entries that have its counts
pub text_is : (c : Codes) (s : Survey) (es : List Entry) → IsSurvey c s es → text_of s ≡ survey_text c es
text_is c s es is = rw (
  times_are s es is.entries is.times,
  bus_is c bus.A s.a (on_bus bus.A (numbered 0 es)) is.a,
  bus_is c bus.B s.b (on_bus bus.B (numbered 0 es)) is.b,
  is.entries,
) refl

-- a word whose parity is not odd
abbrev pub is_of_parity : WordKind → Bool
is_of_parity kind.FreeParity = true
is_of_parity _ = false

-- the first of four tests that holds, and the kind by it
abbrev kind_by : Bool → Bool → Bool → Bool → Option Form → Option Form → WordKind
kind_by parity label type code f other =
    kind_in (cond parity (Some BadParity) (cond label (Some OtherLabel) (cond type (Some IgnoredType) (cond code (Some IgnoredCode) None))))
    f other

parity_by : (parity label type code : Bool) (f other : Option Form) → is_of_parity (kind_by parity label type code f other) ≡ parity
parity_by true label type code f other = refl
parity_by false true type code f other = refl
parity_by false false true code f other = refl
parity_by false false false true f other = refl
parity_by false false false false None (Some x) = refl
parity_by false false false false None None = refl
parity_by false false false false (Some (form.Rts n)) other = refl
parity_by false false false false (Some (form.Cts n)) other = refl
parity_by false false false false (Some (form.Ack file ldu)) other = refl
parity_by false false false false (Some (form.Nak bits)) other = refl
parity_by false false false false (Some (form.Sot gfi file ldu)) other = refl
parity_by false false false false (Some (form.Part semis)) other = refl
parity_by false false false false (Some (form.Eot flags check)) other = refl

parity_of_kind : (c : Codes) (b : Bus) (w : ℕ) → is_of_parity (kind_of c b w) ≡ not (count_of_ones w % 2 == 1)
parity_of_kind c b w =
    parity_by (not (count_of_ones w % 2 == 1)) (not (label_of w == address_of c b)) (list_any (λ n. n == number_at w 29 3) c.ignored_types)
    (number_at w 29 3 == c.protocol && list_any (λ n. n == number_at w 25 4) c.ignored_codes) (form_of c b w) (form_across c b w)

pub even_by_kind : (c : Codes) (x : Numbered) (k : WordKind) → k ≡ kind_of c x.entry.bus x.entry.word → is_of_parity k ≡ is_even x
even_by_kind c x k is = ap is_of_parity is ∙ parity_of_kind c x.entry.bus x.entry.word

pub no_reason : (o : Option Freedom) → (o ≢ None → ⊥) → o ≡ None
no_reason None h = refl
no_reason (Some why) h = absurd (h (λ e. absurd (cc e)))
