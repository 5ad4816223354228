-- A recording without loss is that of a run, and its files' link data units fit.
use Rattle.std.proofs.Common.{map, ◌++◌, ap, ◌≡◌, ◌≤◌, ◌<◌, ◌*◌, ◌+◌, ℕ, Bool, true, false, cond, List, [], ◌∷◌, length, take, drop, ◌==◌, nat_lt, Option, Some, None, All, refl, sym, ◌∙◌, arith}
use Rattle.std.specs.List.{AllByRecursion}
use Rattle.std.proofs.lemmas.Bool.{eqb-false, ltb-false}
use Rattle.std.proofs.lemmas.List.{take-append-drop}
use Rattle.a429_profile.specs.declared.codes.Codes.{Codes}
use Rattle.a429_profile.specs.Profile.{Contents, IsProfile}
use Rattle.a429_ldu.specs.declared.fault.CutFault.{CutFault}
use Rattle.a429_ldu.specs.declared.fault.CutFault.TheVariants as cut
use Rattle.a429_ldu.specs.Cut.{room}
use Rattle.a429_word.specs.declared.bus.Bus.TheVariants as bus
use Rattle.a429_ldu.specs.declared.forms.Form.{Form}
use Rattle.a429_ldu.specs.Form.{form_of, is_free}
use Rattle.a429_ldu.specs.Ldu.{LduValue, block_of}
use Rattle.a429_ldu.proofs.CutFacts.{units}
use Rattle.a429_link.specs.declared.fault.CleanFault.{CleanFault}
use Rattle.a429_link.specs.declared.seen.Seen.{Seen}
use Rattle.a429_link.specs.Clean.{AllFit, clean_block, clean_words, without_free, clean_blocks, clean_steps, weave, units_of_files, cut_fault, refused_or, first_refused}
use Rattle.a429_link.specs.Carry.{on_a}
use Rattle.a429_link.specs.Run.{BeginsARun}
use Rattle.a429_link.proofs.CleanFiles.{EachCut, all_fit}
use Rattle.a429_link.proofs.CleanOffers.{clean_is_run}
use Rattle.a429_explain.specs.Decoded.{forms_of}
use Rattle.a429_explain.specs.Guess.{first_file_of, decoded, HaveCrossed}
use Rattle.a429_explain.specs.WithoutLoss.{Crossing, CanCross, IsWithoutLoss}
use Rattle.a429_explain.proofs.CleanBlock.{HasForms, AreOfBlock, block_has_forms, formed_free}
use Rattle.a429_explain.proofs.CleanGroups.{clean_from_first, unit_has_forms}
use Rattle.a429_link.specs.declared.number.UnitNumber.{UnitNumber}
use Rattle.a429_link.specs.Number.{first_number, number_after}
use Rattle.a429_link.proofs.NumberFacts.{next_byte}
use Rattle.a429_explain.proofs.AttemptsFacts.{IsOfBlock}

-- none of some files is refused: the first is not, and none of the others
pub kept : (k : ℕ) (o : Option CutFault) (later : Option CleanFault) → refused_or k o later ≡ None → (o ≡ None) × (later ≡ None)
kept k None later e = (refl, e)
kept k (Some f) later e = absurd (cc e)

record HasRoom (w : ℕ) (bytes : List ℕ) : Type 0 where
  some : 1 ≤ length bytes
  most : length bytes ≤ 255 * room w

has_room : (w : ℕ) (bytes : List ℕ) → cut_fault w bytes ≡ None → HasRoom w bytes
has_room w bytes e = by (length bytes == 0) (nat_lt (255 * room w) (length bytes)) refl refl e
  where
    by : (a b : Bool) → (length bytes == 0) ≡ a → nat_lt (255 * room w) (length bytes) ≡ b
        → cond a (Some cut.Empty) (cond b (Some cut.TooLong) None) ≡ None → HasRoom w bytes
    by true b ea eb e = absurd (cc e)
    by false true ea eb e = absurd (cc e)
    by false false ea eb e =
        let some = eqb-false (length bytes) 0 ea in record { some = omega (arith, some); most = ltb-false (255 * room w) (length bytes) eb }

each_cut : (p : Contents) → IsProfile p → (w k : ℕ) (files : List (List ℕ)) → 3 ≤ w → w ≤ 255 → AllByRecursion (All (λ b. b < 256)) files
    → first_refused w k files ≡ None → EachCut p w files
each_cut p is w k [] least most h e = tt
each_cut p is w k (bytes ∷ files) least most h e =
    let parts = kept k (cut_fault w bytes) (first_refused w (k + 1) files) e in
    let r = has_room w bytes parts.0 in
    (units p is w bytes least most h.0 r.some r.most, each_cut p is w (k + 1) files least most h.1 parts.1)

abbrev pub its_units : (p : Contents) (items : List Seen) → IsWithoutLoss p items → List LduValue
its_units p items h = units_of_files p h.crossing.max_words h.crossing.files

-- they may be loaded one after the other
units_fit : (p : Contents) → IsProfile p → (items : List Seen) (h : IsWithoutLoss p items) (first : ℕ)
    → AllFit p (first_number p.codes first) (its_units p items h)
units_fit p is items h first =
    all_fit p h.crossing.max_words h.crossing.files
    (each_cut p is h.crossing.max_words 0 h.crossing.files h.can.least h.can.most h.can.bytes h.can.cut) first

-- they are those that are found
pub units_found : (p : Contents) → IsProfile p → (items : List Seen) (h : IsWithoutLoss p items) (first : ℕ)
    → first ≡ first_file_of (forms_of p.codes items) → HaveCrossed (decoded p items) first (its_units p items h)
units_found p is items h first e = rw e (record {
  fit = units_fit p is items h (first_file_of (forms_of p.codes items));
  words = clean_from_first p is h.crossing.first (its_units p items h) items h.can.byte (units_fit p is items h h.crossing.first) h.words;
})

-- a run's trace begins with any number of its words
pub begins : (p : Contents) → IsProfile p → (items : List Seen) (n : ℕ) → IsWithoutLoss p items → BeginsARun p (take n items)
begins p is items n h =
    let run = clean_is_run p h.crossing.first (its_units p items h) items is h.can.byte (units_fit p is items h h.crossing.first) h.words in
    record {
      first = h.crossing.first;
      byte = h.can.byte;
      steps = weave p.codes items (clean_steps p.codes (first_number p.codes h.crossing.first) (its_units p items h));
      run = run.run;
      more = drop n items;
      records = run.records ∙ sym (take-append-drop n items);
    }

-- ---- what a run without loss records is a recording without loss

abbrev AreKept : Codes → List Seen → Type 0
AreKept c [] = Unit {0}
AreKept c (i ∷ items) = (is_free c i.bus i.word ≡ false) × AreKept c items

thin_kept : (c : Codes) (items : List Seen) → AreKept c items → without_free c items ≡ items
thin_kept c [] h = refl
thin_kept c (i ∷ items) h = rw h.0 (ap (λ (xs : List Seen). i ∷ xs) (thin_kept c items h.1))

kept_append : (c : Codes) (xs ys : List Seen) → AreKept c xs → AreKept c ys → AreKept c (xs ++ ys)
kept_append c [] ys h k = k
kept_append c (x ∷ xs) ys h k = (h.0, kept_append c xs ys h.1 k)

word_kept : (c : Codes) (w : ℕ) (o : Option Form) → form_of c bus.A w ≡ o → IsOfBlock o → is_free c bus.A w ≡ false
word_kept c w None e h = absurd h
word_kept c w (Some x) e h = formed_free c bus.A w x e

words_kept : (c : Codes) (ws : List ℕ) → AreOfBlock c ws → AreKept c (map on_a ws)
words_kept c [] h = tt
words_kept c (w ∷ ws) h = (word_kept c w (form_of c bus.A w) refl h.0, words_kept c ws h.1)

block_kept : (p : Contents) (place : UnitNumber) (u : LduValue) → HasForms p place u → AreKept p.codes (clean_block p.codes place u)
block_kept p place u s = (
  formed_free p.codes bus.A _ _ s.request,
  (
    formed_free p.codes bus.B _ _ s.clear,
    kept_append p.codes (map on_a (block_of p.codes u place.file place.ldu)) _
        (words_kept p.codes (block_of p.codes u place.file place.ldu) (block_has_forms p place u s))
        (formed_free p.codes bus.B _ _ s.settled, tt),
  ),
)

clean_kept : (p : Contents) → IsProfile p → (us : List LduValue) (place : UnitNumber) → place.file ≤ 255 → AllFit p place us
    → AreKept p.codes (clean_blocks p.codes place us)
clean_kept p is [] place f h = tt
clean_kept p is (u ∷ us) place f h =
    kept_append p.codes (clean_block p.codes place u) _ (block_kept p place u (unit_has_forms p is place u f h.1 h.0))
    (clean_kept p is us (number_after p.codes place u) (next_byte p.codes place _ f) h.2)

pub clean_without_loss : (p : Contents) (x : Crossing)
    → IsProfile p → CanCross x → IsWithoutLoss p (clean_words p x.max_words x.first x.files)
clean_without_loss p x is can =
    let units = units_of_files p x.max_words x.files in
    let fit = all_fit p x.max_words x.files (each_cut p is x.max_words 0 x.files can.least can.most can.bytes can.cut) x.first in
    record {
      crossing = x;
      can = can;
      words =
          thin_kept p.codes (clean_words p x.max_words x.first x.files) (clean_kept p is units (first_number p.codes x.first) can.byte fit);
    }
