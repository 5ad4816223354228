-- How many words files make.
use Rattle.std.proofs.Common.{◌≡◌, Vec, Global, ℕ, zero, suc, ◌+◌, ◌-◌, ◌*◌, ◌/◌, ◌<◌, ◌≤◌, ◌^◌, min, Bool, true, false, cond, nat_le, List, [], ◌∷◌, ◌++◌, map, length, take, drop, get_or, Some, None, refl, sym, ap, ◌∙◌, arith, append-nil, length-append, length-drop, length-take}
use Rattle.std.proofs.lemmas.Bool.{leb-true, leb-false}
use Rattle.std.proofs.lemmas.List.{drop_more, drop_all, length-map}
use Rattle.a429_profile.specs.Profile.{Contents}
use Rattle.a429_profile.specs.declared.codes.Codes.{Codes}
use Rattle.a429_ldu.specs.Semis.{semis_of_bytes}
use Rattle.a429_ldu.specs.Form.{word_number}
use Rattle.a429_ldu.specs.declared.forms.Form.TheVariants.{Ack, Eot, Part}
use Rattle.a429_ldu.specs.Ldu.{LduValue, block_of}
use Rattle.a429_ldu.specs.Cut.{pieces, units_in, units_of}
use Rattle.a429_ldu.specs.Filling.{data_words, fives}
use Rattle.a429_ldu.proofs.CutPieces.{length-semis}
use Rattle.a429_ldu.specs.declared.fault.CutFault.{CutFault}
use Rattle.a429_link.specs.declared.fault.CleanFault.TheVariants as clean
use Rattle.a429_link.specs.Clean.{clean_blocks, clean_block, clean_words, cut_fault, first_refused, refused_or, units_of_files}
use Rattle.a429_link.specs.Carry.{on_a, on_b}
use Rattle.a429_record.specs.Recording.{most_entries}
use Rattle.std.specs.Vec.{vec_len}
use Rattle.a429_commands.specs.Make.{words_made, AreTooMany}
use Rattle.a429_link.specs.declared.number.UnitNumber.{UnitNumber}
use Rattle.a429_link.specs.Number.{first_number, number_after}

-- ---- link data units

-- the words that link data units make
abbrev pub words_in : List LduValue → ℕ
words_in [] = 0
words_in (u ∷ us) = length u.words + 5 + words_in us

words_in-append : (us vs : List LduValue) → words_in (us ++ vs) ≡ words_in us + words_in vs
words_in-append [] vs = omega arith
words_in-append (u ∷ us) vs = let e = words_in-append us vs in omega arith

length-block : (c : Codes) (place : UnitNumber) (u : LduValue) → length (clean_block c place u) ≡ length u.words + 5
length-block c place u =
    let block = block_of c u place.file place.ldu in
    omega (
      arith,
      length-append (map on_a block) (on_b (word_number c (Ack place.file place.ldu)) ∷ []),
      length-map block on_a,
      length-append u.words (word_number c (Eot u.flags u.check) ∷ []),
    )

length-clean : (c : Codes) (place : UnitNumber) (us : List LduValue) → length (clean_blocks c place us) ≡ words_in us
length-clean c place [] = refl
length-clean c place (u ∷ us) =
    let next = number_after c place u in
    omega (arith, length-append (clean_block c place u) (clean_blocks c next us), length-block c place u, length-clean c next us)

-- ---- one file

length-fives : (ss : List ℕ) → length (fives ss) ≡ (length ss + 4) / 5
length-fives [] = refl
length-fives (p ∷ []) = refl
length-fives (p ∷ q ∷ []) = refl
length-fives (p ∷ q ∷ r ∷ []) = refl
length-fives (p ∷ q ∷ r ∷ s ∷ []) = refl
length-fives (p ∷ q ∷ r ∷ s ∷ t ∷ rest) = let e = length-fives rest in omega arith

length-data : (c : Codes) (bs : List ℕ) → length (data_words c bs) ≡ (2 * length bs + 4) / 5
length-data c bs =
    omega
    (arith, length-map (fives (semis_of_bytes bs)) (λ semis. word_number c (Part semis)), length-fives (semis_of_bytes bs), length-semis bs)

one_unit : (p : Contents) (piece : List ℕ) (ps : List (List ℕ))
    → words_in (units_in p (piece ∷ ps)) ≡ length (data_words p.codes piece) + 5 + words_in (units_in p ps)
one_unit p piece [] = refl
one_unit p piece (next ∷ rest) = refl

-- so many bytes, 632 to a unit
abbrev words_of : ℕ → ℕ
words_of n = (n - 1) / 632 * 258 + ((2 * (n - (n - 1) / 632 * 632) + 4) / 5 + 5)

words_of-few : (n : ℕ) → 1 ≤ n → n ≤ 632 → words_of n ≡ (2 * n + 4) / 5 + 5
words_of-few n some most = let none : (n - 1) / 632 ≡ 0 = omega arith in rw none (omega arith)

words_of-more : (n : ℕ) → 632 < n → words_of n ≡ 258 + words_of (n - 632)
words_of-more n more = let one : (n - 1) / 632 ≡ suc ((n - 632 - 1) / 632) = omega arith in rw one (omega arith)

words_in-pieces : (p : Contents) (m : ℕ) (bs : List ℕ)
    → 1 ≤ length bs → length bs ≤ m * 632 → words_in (units_in p (pieces m 632 bs)) ≡ words_of (length bs)
unfolding pieces
words_in-pieces p zero bs some most = absurd (omega arith)
words_in-pieces p (suc m) bs some most =
    by_size (nat_le (length bs) 632) refl
    (λ more. let size = length-drop 632 bs in words_in-pieces p m (drop 632 bs) (omega arith) (omega arith) ∙ ap words_of size)
  where
    by_size : (b : Bool)
        → nat_le (length bs) 632 ≡ b → (632 < length bs → words_in (units_in p (pieces m 632 (drop 632 bs))) ≡ words_of (length bs - 632))
        → words_in (units_in p (cond b (bs ∷ []) (take 632 bs ∷ pieces m 632 (drop 632 bs)))) ≡ words_of (length bs)
    by_size true e later =
        let few : length bs ≤ 632 = leb-true (length bs) 632 e in
        omega (arith, length-data p.codes bs, words_of-few (length bs) some few)
    by_size false e later =
        let more : 632 < length bs = leb-false (length bs) 632 e in
        one_unit p (take 632 bs) (pieces m 632 (drop 632 bs))
        ∙ omega (arith, length-data p.codes (take 632 bs), length-take 632 bs, later more, words_of-more (length bs) more)

pub words-one : (p : Contents) (file : ℕ) (bs : List ℕ) (n : ℕ)
    → n ≡ length bs → 1 ≤ n → n ≤ 255 * 632 → length (clean_words p 255 file (bs ∷ [])) ≡ words_of n
words-one p file bs n e some most =
    length-clean p.codes (first_number p.codes file) (units_of p 255 bs ++ []) ∙ ap words_in (append-nil (units_of p 255 bs))
    ∙ words_in-pieces p 255 bs (omega (arith, e)) (omega (arith, e)) ∙ ap words_of (sym e)

-- ---- file after file

-- a count of words that is right, unless it is of more than a recording may have
abbrev pub Counts : ℕ → ℕ → Type 0
Counts n total = (n ≤ total) × (n ≤ most_entries → n ≡ total)

-- no file so far is refused, and the words so far, with those of the files still to come, are all
pub record AreCounted (files : List (List ℕ)) (k n : ℕ) : Type 0 where
  pub refused : first_refused 255 k (drop k files) ≡ first_refused 255 0 files
  pub count : (p : Contents) → Counts (n + words_in (units_of_files p 255 (drop k files))) (words_in (units_of_files p 255 files))

pub counted_start : (files : List (List ℕ)) → AreCounted files 0 0
counted_start files = record { refused = refl; count = λ p. (omega arith, λ _. omega arith) }

pub next_file_at : (files : List (List ℕ)) (k : ℕ) (f : List ℕ)
    → k < length files → f ≡ get_or files k f → drop k files ≡ f ∷ drop (k + 1) files
next_file_at files k f l e = drop_more files k f l ∙ ap (λ (g : List ℕ). g ∷ drop (k + 1) files) (sym e)

-- a file more
pub counted_more : (files : List (List ℕ)) (k n c : ℕ) (f : List ℕ) → k < length files → f ≡ get_or files k f → cut_fault 255 f ≡ None
    → ((p : Contents) → (file : ℕ) → length (clean_words p 255 file (f ∷ [])) ≡ c) → AreCounted files k n
    → AreCounted files (k + 1) (min (n + c) (2 ^ 64 - 1))
counted_more files k n c f l ef none words h =
    let split = next_file_at files k f l ef in
    record {
      refused =
          sym (ap (first_refused 255 k) split ∙ ap (λ o. refused_or k o (first_refused 255 (k + 1) (drop (k + 1) files))) none) ∙ h.refused;
      count = λ p. counts p (h.count p);
    }
  where
    rest : Contents → ℕ → ℕ
    rest p j = words_in (units_of_files p 255 (drop j files))

    one : (p : Contents) → c ≡ words_in (units_of p 255 f)
    one p = sym (words p 0) ∙ length-clean p.codes (first_number p.codes 0) (units_of p 255 f ++ [])
        ∙ ap words_in (append-nil (units_of p 255 f))

    first : (p : Contents) → rest p k ≡ c + rest p (k + 1)
    first p =
        ap (λ fs. words_in (units_of_files p 255 fs)) (next_file_at files k f l ef)
        ∙ words_in-append (units_of p 255 f) (units_of_files p 255 (drop (k + 1) files)) ∙ ap (λ m. m + rest p (k + 1)) (sym (one p))

    counts : (p : Contents) → Counts (n + rest p k) (rest p 0) → Counts (min (n + c) (2 ^ 64 - 1) + rest p (k + 1)) (rest p 0)
    counts p g =
        let e = first p in
        let below = g.0 in (
          omega arith,
          λ small. let same : min (n + c) (2 ^ 64 - 1) + rest p (k + 1) ≡ n + rest p k = omega arith in same ∙ g.1 (omega arith),
        )

-- the next file is refused
pub counted_refused : (files : List (List ℕ)) (k n : ℕ) (f : List ℕ) (e : CutFault) → k < length files → f ≡ get_or files k f
    → cut_fault 255 f ≡ Some e → AreCounted files k n → first_refused 255 0 files ≡ Some (clean.Cut k e)
counted_refused files k n f e l ef some h =
    sym h.refused ∙ ap (first_refused 255 k) (next_file_at files k f l ef)
    ∙ ap (λ o. refused_or k o (first_refused 255 (k + 1) (drop (k + 1) files))) some

-- no file is left
pub counted_end : (files : List (List ℕ)) (k n : ℕ) → length files ≤ k → AreCounted files k n
    → (first_refused 255 0 files ≡ None) × ((p : Contents) → Counts n (length (words_made p files)))
counted_end files k n l h =
    let none = drop_all k files l in
    (sym h.refused ∙ ap (first_refused 255 k) none, λ p. all p none (h.count p))
  where
    all : (p : Contents)
        → drop k files ≡ [] → Counts (n + words_in (units_of_files p 255 (drop k files))) (words_in (units_of_files p 255 files))
        → Counts n (length (words_made p files))
    all p none g =
        let e = length-clean p.codes (first_number p.codes 1) (units_of_files p 255 files) in
        let left = ap (λ fs. words_in (units_of_files p 255 fs)) none in
        let below = g.0 in
        (omega arith, λ small. let whole = g.1 (omega arith) in omega arith)

-- how many bytes a file has, as a body asks it
pub vec_size : (file : Vec ℕ Global) → length file.items ≡ vec_len file
vec_size file = sym file.ok.0

-- there is room for all words, or there are too many
pub all_room : (files : List (List ℕ)) (n : ℕ) → ((p : Contents) → Counts n (length (words_made p files))) → n ≤ most_entries
    → (p : Contents) → length (words_made p files) ≤ most_entries
all_room files n count few = λ p. let same = (count p).1 few in omega arith

pub too_many : (files : List (List ℕ)) (n : ℕ)
    → first_refused 255 0 files ≡ None → ((p : Contents) → Counts n (length (words_made p files))) → most_entries < n → AreTooMany files
too_many files n none count many = record { cut = none; more = λ p. let below = (count p).0 in omega arith }
