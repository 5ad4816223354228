-- Counts of what becomes of entries, one more at a time, and their lines.
use Rattle.std.proofs.Common.{◌≡◌, ◌≢◌, ◌⊎◌, ℕ, suc, ◌+◌, ◌-◌, ◌^◌, ◌<◌, ◌==◌, min, Bool, true, false, List, [], ◌∷◌, ◌++◌, length, length-append, get_or, set, drop, take, inl, inr, codes, refl, sym, ap, ◌∙◌, subst, arith}
use Rattle.std.specs.Prelude.{filter}
use Rattle.std.specs.Fmt.{decimal}
use Rattle.std.proofs.lemmas.Bool.{cases_Bool}
use Rattle.std.proofs.lemmas.Bool.Decides.{nat_tests}
use Rattle.std.proofs.lemmas.List.{get_or-set_same, get_or-set_other, length-set}
use Rattle.a429_word.specs.Digits.{hex_text, numeral}
use Rattle.a429_word.proofs.CountFacts.{filter_yes, filter_no, filter_short, one_more, counted_yes}
use Rattle.a429_side.specs.declared.lot.Lot.{Lot}
use Rattle.a429_side.specs.declared.lot.Lot.TheVariants.{Elsewhere}
use Rattle.a429_side.specs.declared.counts.Counts.{Counts}
use Rattle.a429_side.specs.declared.counts.DestinationCount.{DestinationCount}
use Rattle.a429_side.specs.Counts.{AreCounts, AreDestinations, IsDestinationCount, destination_line, destination_lines, hex_pair, is_a_request, is_at, is_of_none, is_of_other, is_renamed, is_written, no_words}

-- ---- one more, filtered

counted_no : (p : Lot → Bool) (lots : List Lot) (lot : Lot) (old : ℕ) → p lot ≡ false → old ≡ length (filter p lots)
    → old ≡ length (filter p (lots ++ lot ∷ []))
counted_no p lots lot old e h = h ∙ sym (ap length (filter_no p lots lot e))

pub all_counted : (lots : List Lot) (lot : Lot) (new old : ℕ)
    → new ≡ min (old + 1) (2 ^ 64 - 1) → length lots + 1 < 2 ^ 64 → old ≡ length lots → new ≡ length (lots ++ lot ∷ [])
all_counted lots lot new old is few h = one_more new old (length lots) is h few ∙ sym (length-append lots (lot ∷ []))

-- ---- the words of a destination

pub word_more : (old new : DestinationCount) (lots : List Lot) (lot : Lot) → new.words ≡ min (old.words + 1) (2 ^ 64 - 1)
    → (old.requests ≡ length (filter is_a_request lots) → new.requests ≡ length (filter is_a_request (lots ++ lot ∷ [])))
    → length lots + 1 < 2 ^ 64 → IsDestinationCount old lots → IsDestinationCount new (lots ++ lot ∷ [])
word_more old new lots lot words requests few h = (all_counted lots lot new.words old.words words few h.0, requests h.1)

-- a word of no other destination
pub table_stays : (table : List DestinationCount) (lots : List Lot) (lot : Lot)
    → ((d : ℕ) → is_at d lot ≡ false) → AreDestinations table lots → AreDestinations table (lots ++ lot ∷ [])
table_stays table lots lot none h = record {
  code_count = h.code_count;
  each = λ d l. subst (IsDestinationCount (get_or table d no_words)) (sym (filter_no (is_at d) lots lot (none d))) (h.each d l);
}

-- a word of another destination
pub table_more : (table : List DestinationCount) (lots : List Lot) (code : ℕ) (r : Bool) (more : DestinationCount) → code < 256
    → AreDestinations table lots → IsDestinationCount more (filter (is_at code) lots ++ Elsewhere code r ∷ [])
    → AreDestinations (set table code more) (lots ++ Elsewhere code r ∷ [])
table_more table lots code r more inside h one = record { code_count = length-set table code more ∙ h.code_count; each = each }
  where
    long : length table ≡ 256
    long = h.code_count

    each : (d : ℕ)
        → d < 256 → IsDestinationCount (get_or (set table code more) d no_words) (filter (is_at d) (lots ++ Elsewhere code r ∷ []))
    each d l = elim (cases_Bool (code == d)) [
      | inl same ↦
          let at : d ≡ code = grind (arith, nat_tests) in
          let here : get_or (set table code more) d no_words ≡ more =
          rw at (get_or-set_same table code more no_words (omega (arith, inside, long))) in
          let all : filter (is_at d) (lots ++ Elsewhere code r ∷ []) ≡ filter (is_at code) lots ++ Elsewhere code r ∷ [] =
          filter_yes (is_at d) lots (Elsewhere code r) same ∙ ap (λ (j : ℕ). filter (is_at j) lots ++ Elsewhere code r ∷ []) at in
          rw (here, all) one
      | inr other ↦
          let apart : d ≢ code = grind (arith, nat_tests) in
          rw (get_or-set_other table code d more no_words apart, filter_no (is_at d) lots (Elsewhere code r) other) (h.each d l)
    ]

pub at_few : (code : ℕ) (lots : List Lot) → length lots + 1 < 2 ^ 64 → length (filter (is_at code) lots) + 1 < 2 ^ 64
at_few code lots few = let short = filter_short (is_at code) lots in omega (arith, short, few)

-- ---- all counts

-- a count of some of the entries goes up by one, or stays
abbrev pub Goes : (Lot → Bool) → Lot → ℕ → ℕ → Type 0
Goes p lot new old = ((p lot ≡ true) × (new ≡ min (old + 1) (2 ^ 64 - 1))) ⊎ ((p lot ≡ false) × (new ≡ old))

goes : (p : Lot → Bool) (lots : List Lot) (lot : Lot) (new old : ℕ) → length lots + 1 < 2 ^ 64 → Goes p lot new old
    → old ≡ length (filter p lots) → new ≡ length (filter p (lots ++ lot ∷ []))
goes p lots lot new old few (inl (e, is)) h = counted_yes p lots lot new old e is few h
goes p lots lot new old few (inr (e, is)) h = is ∙ counted_no p lots lot old e h

pub counts_more : (old new : Counts) (lots : List Lot) (lot : Lot)
    → length lots + 1 < 2 ^ 64 → new.entries ≡ min (old.entries + 1) (2 ^ 64 - 1)
    → Goes is_written lot new.kept old.kept → Goes is_of_other lot new.of_other old.of_other → Goes is_of_none lot new.of_none old.of_none
    → Goes is_renamed lot new.renamed old.renamed
    → AreDestinations new.destinations (lots ++ lot ∷ []) → AreCounts old lots → AreCounts new (lots ++ lot ∷ [])
counts_more old new lots lot few all kept other none renamed destinations h = record {
  entries = all_counted lots lot new.entries old.entries all few h.entries;
  kept = goes is_written lots lot new.kept old.kept few kept h.kept;
  of_other = goes is_of_other lots lot new.of_other old.of_other few other h.of_other;
  of_none = goes is_of_none lots lot new.of_none old.of_none few none h.of_none;
  renamed = goes is_renamed lots lot new.renamed old.renamed few renamed h.renamed;
  destinations = destinations;
}

-- ---- the lines

pub lines_none : (table : List DestinationCount) → destination_lines 0 table ≡ []
unfolding destination_lines
lines_none table = refl

pub lines_more : (n : ℕ) (table : List DestinationCount)
    → destination_lines (n + 1) table ≡ destination_lines n table ++ destination_line n (get_or table n no_words)
unfolding destination_lines
lines_more n table = let next : n + 1 ≡ suc n = omega arith in rw next refl

pub some_line : (code : ℕ) (h : DestinationCount) → (h.words ≡ 0 → ⊥)
    → destination_line code h ≡ codes "destination " ++ hex_pair code ++ codes " requests " ++ decimal h.requests ++ codes " words "
    ++ decimal h.words ++ codes "\n"
some_line code h e = elim (cases_Bool (h.words == 0)) [
  | inl none ↦ absurd (e (grind (arith, nat_tests)))
  | inr some ↦ rw some refl
]

pub last_pair : (code : ℕ) → take 2 (drop 6 (hex_text code)) ≡ hex_pair code
unfolding numeral
last_pair code = refl
