-- What `make` writes stands for the words that it makes.
use Rattle.std.proofs.Common.{◌≡◌, ℕ, suc, ◌+◌, ◌*◌, ◌^◌, ◌<◌, ◌≤◌, List, [], ◌∷◌, ◌++◌, map, length, Option, Some, None, refl, sym, ap, ◌∙◌, subst, arith}
use Rattle.a429_word.specs.declared.bus.Bus.{Bus}
use Rattle.a429_word.specs.declared.bus.Bus.TheVariants as bus
use Rattle.a429_profile.specs.Profile.{Contents, IsProfile}
use Rattle.a429_ldu.specs.declared.forms.Form.{Form}
use Rattle.a429_ldu.specs.Form.{form_of}
use Rattle.a429_ldu.specs.Ldu.{LduValue, block_of}
use Rattle.a429_ldu.proofs.FormFacts.{form_of-is}
use Rattle.a429_link.specs.declared.seen.Seen.{Seen}
use Rattle.a429_link.specs.Clean.{AllFit, IsRunOf, numbered, clean_blocks, clean_block, units_of_files, first_refused}
use Rattle.a429_link.specs.Carry.{on_a}
use Rattle.a429_link.proofs.CleanFiles.{all_fit}
use Rattle.a429_record.specs.Recording.{stands_for, whole, most_entries, NeverFalls}
use Rattle.a429_record.specs.WholeRecordings.{AreEntries}
use Rattle.a429_record.specs.Writing.{written_form}
use Rattle.a429_record.proofs.WrittenIsReadBack.{written-back}
use Rattle.a429_cert.specs.Explained.{items_of}
use Rattle.a429_explain.proofs.CleanBlock.{HasForms, AreOfBlock, block_has_forms}
use Rattle.a429_explain.proofs.CleanGroups.{unit_has_forms}
use Rattle.a429_commands.specs.Recording.{SayInput}
use Rattle.a429_commands.specs.Make.{timed, words_made, MakesRecording, SaysRunOf, AreByteLists}
use Rattle.a429_commands.proofs.MakeCrossed.{is_profile, each_cut, made_cross}
use Rattle.a429_link.specs.declared.number.UnitNumber.{UnitNumber}
use Rattle.a429_link.specs.Number.{first_number, number_after}
use Rattle.a429_link.proofs.NumberFacts.{next_byte}
use Rattle.a429_explain.proofs.AttemptsFacts.{IsOfBlock}

-- ---- entries of words

items_timed : (i : ℕ) (words : List Seen) → items_of (timed i words) ≡ words
items_timed i [] = refl
items_timed i (s ∷ words) = ap (λ (later : List Seen). s ∷ later) (items_timed (i + 1) words)

length-timed : (i : ℕ) (words : List Seen) → length (timed i words) ≡ length words
length-timed i [] = refl
length-timed i (s ∷ words) = ap suc (length-timed (i + 1) words)

never_falls : (i last : ℕ) (words : List Seen) → last ≤ 1000 * i → NeverFalls last (timed i words)
never_falls i last [] h = tt
never_falls i last (s ∷ words) h = (h, never_falls (i + 1) (1000 * i) words (omega arith))

-- each word has at most 32 bits
abbrev AreSmall : List Seen → Type 0
AreSmall [] = Unit {0}
AreSmall (s ∷ words) = (s.word < 2 ^ 32) × AreSmall words

are_entries : (i : ℕ) (words : List Seen) → i + length words ≤ 1000000 → AreSmall words → AreEntries (timed i words)
are_entries i [] room h = tt
are_entries i (s ∷ words) room h = (omega arith, h.0, are_entries (i + 1) words (omega arith) h.1)

-- ---- the words that are made

are_append : (xs ys : List Seen) → AreSmall xs → AreSmall ys → AreSmall (xs ++ ys)
are_append [] ys h k = k
are_append (x ∷ xs) ys h k = (h.0, are_append xs ys h.1 k)

formed : (p : Contents) → IsProfile p → (b : Bus) (w : ℕ) (x : Form) → form_of p.codes b w ≡ Some x → w < 2 ^ 32
formed p is b w x e = ((form_of-is p is b w x).0 e).1.word

of_block : (p : Contents) → IsProfile p → (w : ℕ) (o : Option Form) → form_of p.codes bus.A w ≡ o → IsOfBlock o → w < 2 ^ 32
of_block p is w None e h = absurd h
of_block p is w (Some x) e h = formed p is bus.A w x e

are_of_block : (p : Contents) → IsProfile p → (ws : List ℕ) → AreOfBlock p.codes ws → AreSmall (map on_a ws)
are_of_block p is [] h = tt
are_of_block p is (w ∷ ws) h = (of_block p is w (form_of p.codes bus.A w) refl h.0, are_of_block p is ws h.1)

are_block : (p : Contents) → IsProfile p → (place : UnitNumber) (u : LduValue) → HasForms p place u → AreSmall (clean_block p.codes place u)
are_block p is place u s = (
  formed p is bus.A _ _ s.request,
  (
    formed p is bus.B _ _ s.clear,
    are_append (map on_a (block_of p.codes u place.file place.ldu)) _
        (are_of_block p is (block_of p.codes u place.file place.ldu) (block_has_forms p place u s)) (formed p is bus.B _ _ s.settled, tt),
  ),
)

are_clean : (p : Contents) → IsProfile p → (us : List LduValue) (place : UnitNumber) → place.file ≤ 255 → AllFit p place us
    → AreSmall (clean_blocks p.codes place us)
are_clean p is [] place f h = tt
are_clean p is (u ∷ us) place f h =
    are_append (clean_block p.codes place u) _ (are_block p is place u (unit_has_forms p is place u f h.1 h.0))
    (are_clean p is us (number_after p.codes place u) (next_byte p.codes place _ f) h.2)

-- what is written of them stands for them
pub made_back : (p : Contents) → IsProfile p → (files : List (List ℕ)) → AreByteLists files → first_refused 255 0 files ≡ None
    → length (words_made p files) ≤ most_entries
    → stands_for (written_form (timed 0 (words_made p files))) ≡ whole (timed 0 (words_made p files))
made_back p is files small none room =
    let words = words_made p files in
    let are =
    are_clean p is (units_of_files p 255 files) (first_number p.codes 1) (omega arith)
    (all_fit p 255 files (each_cut p is 0 files small none) 1) in
    written-back (timed 0 words) (are_entries 0 words (omega arith) are)
    (omega (arith, length-timed 0 words), never_falls 0 0 words (omega arith))

-- and what it says is what a run records that delivers the files
pub made_says : (profile : List ℕ) (files : List (List ℕ)) (text : List ℕ)
    → AreByteLists files → MakesRecording profile files text → SaysRunOf profile files text
made_says profile files text small made =
    let p = made.contents in
    let is = is_profile profile p made.is_profile in
    let run = made_cross p files is small made.cut in
    let back = made_back p is files small made.cut made.room in
    let says : SayInput profile (Some text) =
    record { contents = p; entries = timed 0 (words_made p files); is_profile = made.is_profile; stand = ap stands_for made.is ∙ back } in (
      says,
      (
        run.0,
        subst (λ items. IsRunOf p 1 run.0 items (record { files = numbered 1 files; open_bytes = [] }))
            (sym (items_timed 0 (words_made p files))) run.1,
      ),
    )
