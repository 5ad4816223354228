-- The words that files make, file after file.
use Rattle.std.proofs.Common.{◌≡◌, ℕ, zero, suc, ◌+◌, ◌%◌, ◌<◌, ◌≤◌, Vec, Global, List, [], ◌∷◌, ◌++◌, map, length, take, drop, get_or, None, refl, sym, ap, ◌∙◌, arith, append_assoc, append-nil, length-append}
use Rattle.std.specs.List.{flat_map}
use Rattle.std.proofs.Math.Seq.{take-append_seam}
use Rattle.std.proofs.lemmas.List.{length-take-le, drop_all}
use Rattle.a429_profile.specs.Profile.{Contents, IsProfile}
use Rattle.a429_ldu.specs.Cut.{units_of}
use Rattle.a429_ldu.proofs.CutFacts.{units_last}
use Rattle.a429_link.specs.declared.seen.Seen.{Seen}
use Rattle.a429_link.specs.Clean.{clean_blocks, clean_words, units_of_files, cut_fault, refused_or, first_refused}
use Rattle.a429_link.proofs.CleanFiles.{clean_append, file_at, past_files}
use Rattle.a429_record.specs.Writing.{line_text}
use Rattle.a429_commands.specs.Make.{timed, words_made}
use Rattle.a429_commands.proofs.MakeCounted.{next_file_at}
use Rattle.a429_commands.proofs.MakeTimed.{lines-append}
use Rattle.a429_link.specs.Number.{first_number}
use Rattle.a429_explain.proofs.WithoutLoss.{kept}

-- the words so far are so many of all words, and with those of the files still to come they are all
pub record AreMade (p : Contents) (files : List (List ℕ)) (k number n : ℕ) : Type 0 where
  pub reports : take n (words_made p files) ++ clean_words p 255 number (drop k files) ≡ words_made p files
  pub most : n ≤ length (words_made p files)

pub made_start : (p : Contents) (files : List (List ℕ)) → AreMade p files 0 1 0
made_start p files = record { reports = refl; most = omega arith }

pub made_end : (p : Contents) (files : List (List ℕ)) (k number n : ℕ)
    → length files ≤ k → AreMade p files k number n → take n (words_made p files) ≡ words_made p files
made_end p files k number n l h =
    sym (append-nil (take n (words_made p files)))
    ∙ ap (λ fs. take n (words_made p files) ++ clean_words p 255 number fs) (sym (drop_all k files l)) ∙ h.reports

-- these words are next, and so are their lines
pub record AreNext (p : Contents) (files : List (List ℕ)) (k number n : ℕ) (new : List Seen) : Type 0 where
  pub made : AreMade p files (k + 1) ((number + 1) % 256) (n + length new)
  pub lines : flat_map line_text (timed 0 (take (n + length new) (words_made p files)))
      ≡ flat_map line_text (timed 0 (take n (words_made p files))) ++ flat_map line_text (timed n new)

file_first : (p : Contents) → IsProfile p → (number : ℕ) (f : List ℕ) (files : List (List ℕ))
    → clean_words p 255 number (f ∷ files) ≡ clean_words p 255 number (f ∷ []) ++ clean_words p 255 ((number + 1) % 256) files
file_first p is number f files =
    let us = units_of p 255 f in
    clean_append p.codes (first_number p.codes number) us (units_of_files p 255 files) (units_last p is 255 f)
    ∙ ap (λ vs. clean_blocks p.codes (first_number p.codes number) vs ++ clean_words p 255 ((number + 1) % 256) files) (sym (append-nil us))

made_more : (p : Contents) → IsProfile p → (files : List (List ℕ)) (k number n : ℕ) (f : List ℕ) (new : List Seen) → k < length files
    → f ≡ get_or files k f → new ≡ clean_words p 255 number (f ∷ []) → AreMade p files k number n → AreNext p files k number n new
made_more p is files k number n f new l ef en h = record {
  made = record { reports = ap (λ front. front ++ later) taken ∙ reports; most = omega (arith, short, sizes) };
  lines = ap (λ items. flat_map line_text (timed 0 items)) taken ∙ lines-append done new n (sym size);
}
  where
    all : List Seen
    all = words_made p files

    done : List Seen
    done = take n all

    later : List Seen
    later = clean_words p 255 ((number + 1) % 256) (drop (k + 1) files)

    size : length done ≡ n
    size = length-take-le n all h.most

    reports : (done ++ new) ++ later ≡ all
    reports =
        append_assoc done new later
        ∙ ap (λ items. done ++ (items ++ later)) en
        ∙ ap (λ items. done ++ items) (sym (file_first p is number f (drop (k + 1) files)))
        ∙ ap (λ fs. done ++ clean_words p 255 number fs) (sym (next_file_at files k f l ef))
        ∙ h.reports

    short : length (done ++ new) ≡ n + length new
    short = length-append done new ∙ ap (λ m. m + length new) size

    sizes : length (done ++ new) + length later ≡ length all
    sizes = sym (length-append (done ++ new) later) ∙ ap length reports

    taken : take (n + length new) all ≡ done ++ new
    taken = ap (λ m. take m all) (sym short) ∙ ap (take (length (done ++ new))) (sym reports) ∙ take-append_seam (done ++ new) later

-- as a body meets them
pub next_words : (p : Contents)
    → IsProfile p → (files : List (Vec ℕ Global)) (k number n : ℕ) (file : Vec ℕ Global) (one : List (Vec ℕ Global)) (new : List Seen)
    → k < length files → file ≡ get_or files k file → one ≡ file ∷ [] → new ≡ clean_words p 255 number (map (λ f. f.items) one)
    → AreMade p (map (λ f. f.items) files) k number n → AreNext p (map (λ f. f.items) files) k number n new
next_words p is files k number n file one new l ef eo en h =
    let at = file_at files k file file.items l ef refl in
    made_more p is (map (λ f. f.items) files) k number n file.items new at.0 at.1
    (en ∙ ap (λ fs. clean_words p 255 number (map (λ f. f.items) fs)) eo) h

pub all_words : (p : Contents) (files : List (Vec ℕ Global)) (k number n : ℕ)
    → length files ≤ k → AreMade p (map (λ f. f.items) files) k number n
    → take n (words_made p (map (λ f. f.items) files)) ≡ words_made p (map (λ f. f.items) files)
all_words p files k number n l h = made_end p (map (λ f. f.items) files) k number n (past_files files k l) h

-- ---- none is refused

fine_at : (j : ℕ) (files : List (List ℕ)) (k : ℕ) (f : List ℕ)
    → k < length files → f ≡ get_or files k f → first_refused 255 j files ≡ None → cut_fault 255 f ≡ None
fine_at j [] k f l ef h = absurd (omega arith)
fine_at j (g ∷ files) zero f l ef h = ap (cut_fault 255) ef ∙ (kept j (cut_fault 255 g) (first_refused 255 (j + 1) files) h).0
fine_at j (g ∷ files) (suc k) f l ef h =
    fine_at (j + 1) files k f (omega arith) ef (kept j (cut_fault 255 g) (first_refused 255 (j + 1) files) h).1

-- nor is a file alone, as a body meets it
pub fine_alone : (files : List (Vec ℕ Global)) (k : ℕ) (file : Vec ℕ Global) (one : List (Vec ℕ Global))
    → k < length files → file ≡ get_or files k file → one ≡ file ∷ [] → first_refused 255 0 (map (λ f. f.items) files) ≡ None
    → first_refused 255 0 (map (λ f. f.items) one) ≡ None
fine_alone files k file one l ef eo none =
    let at = file_at files k file file.items l ef refl in
    ap (λ fs. first_refused 255 0 (map (λ f. f.items) fs)) eo
    ∙ ap (λ o. refused_or 0 o None) (fine_at 0 (map (λ f. f.items) files) k file.items at.0 at.1 none)
