-- Files that cross without loss.
use Rattle.std.proofs.Common.{◌≡◌, ◌≢◌, All, Vec, eq-eqb, ℕ, zero, suc, ◌+◌, ◌%◌, ◌*◌, ◌≤◌, ◌<◌, Bool, true, false, cond, nat_le, List, [], ◌∷◌, ◌++◌, map, length, take, drop, get_or, Some, None, refl, sym, ap, ◌∙◌, subst, arith, append_assoc, append-nil}
use Rattle.std.specs.List.{concat, AllByRecursion}
use Rattle.std.proofs.lemmas.Bool.{ne_eqb, lt-ltb, le-ltb}
use Rattle.std.proofs.lemmas.List.{drop_more, drop_all, get_or-map, length-map}
use Rattle.a429_ldu.specs.declared.fault.CutFault.TheVariants as cut
use Rattle.std.proofs.lemmas.List.Elements.{recursion_from_All}
use Rattle.a429_ldu.specs.Ldu.{IsLdu, LduValue, bytes_of, is_final, count_of}
use Rattle.a429_link.specs.Run.{trace}
use Rattle.a429_link.specs.Sink.{nothing_received, Received, put}
use Rattle.a429_link.specs.State.{State}
use Rattle.a429_link.specs.declared.file.FileBytes.{FileBytes}
use Rattle.a429_link.specs.declared.seen.Seen.{Seen}
use Rattle.a429_link.specs.declared.step.Step.{Step}
use Rattle.a429_profile.specs.Profile.{Contents, IsProfile}
use Rattle.a429_profile.specs.declared.codes.Codes.{Codes}
use Rattle.a429_ldu.specs.Cut.{pieces, room, units_in, units_of, OnlyLastIsFinal}
use Rattle.a429_ldu.proofs.CutFacts.{AreUnits}
use Rattle.a429_link.specs.Clean.{clean_block, clean_blocks, AllFit, shelved, clean_steps, all_steps, units_of_files, clean_words, clean_run_steps, numbered, cut_fault, refused_or, first_refused, IsRunOf}
use Rattle.a429_ldu.specs.declared.fault.CutFault.{CutFault}
use Rattle.a429_link.specs.declared.fault.CleanFault.TheVariants.{Cut}
use Rattle.a429_link.proofs.CleanOffers.{clean_books}
use Rattle.a429_link.proofs.CleanRuns.{clean_goes, clean_records, start_ready, Records, trace_append}
use Rattle.a429_link.specs.declared.number.UnitNumber.{UnitNumber}
use Rattle.a429_link.specs.Number.{first_number, number_after}

-- ---- one file

-- at the last link data unit of a file the next file begins
file_ends : (c : Codes) (n : UnitNumber) (u : LduValue)
    → is_final c u.flags ≡ true → number_after c n u ≡ first_number c ((n.file + 1) % 256)
file_ends c n u e = rw e refl

-- at another the file goes on
file_goes : (c : Codes) (n : UnitNumber) (u : LduValue) → is_final c u.flags ≡ false → (number_after c n u).file ≡ n.file
file_goes c n u e = rw e refl

-- the words of a file, and of those behind it
pub clean_append : (c : Codes) (n : UnitNumber) (us vs : List LduValue)
    → OnlyLastIsFinal c us → clean_blocks c n (us ++ vs) ≡ clean_blocks c n us ++ clean_blocks c (first_number c ((n.file + 1) % 256)) vs
clean_append c n [] vs h = absurd h
clean_append c n (u ∷ []) vs h =
    ap (λ m. clean_block c n u ++ clean_blocks c m vs) (file_ends c n u h)
    ∙ ap (λ (b : List Seen). b ++ clean_blocks c (first_number c ((n.file + 1) % 256)) vs) (sym (append-nil (clean_block c n u)))
clean_append c n (u ∷ (v ∷ us)) vs h =
    ap (λ (b : List Seen). clean_block c n u ++ b) (clean_append c (number_after c n u) (v ∷ us) vs h.1
    ∙ ap (λ f. clean_blocks c (number_after c n u) (v ∷ us) ++ clean_blocks c (first_number c ((f + 1) % 256)) vs) (file_goes c n u h.0))
    ∙ sym (append_assoc (clean_block c n u) (clean_blocks c (number_after c n u) (v ∷ us))
    (clean_blocks c (first_number c ((n.file + 1) % 256)) vs))

-- the files that were received, with one more
abbrev closed : ℕ → List ℕ → Received → Received
closed file bytes o = record { files = o.files ++ record { number = file; bytes = o.open_bytes ++ bytes } ∷ []; open_bytes = [] }

put_last : (c : Codes) (file : ℕ) (bytes : List ℕ) (u : LduValue) (o : Received)
    → is_final c u.flags ≡ true → put file bytes (is_final c u.flags) o ≡ closed file bytes o
put_last c file bytes u o e = rw e refl

put_more : (c : Codes) (file : ℕ) (bytes : List ℕ) (u : LduValue) (o : Received)
    → is_final c u.flags ≡ false → put file bytes (is_final c u.flags) o ≡ record { files = o.files; open_bytes = o.open_bytes ++ bytes }
put_more c file bytes u o e = rw e refl

pub shelved_append : (c : Codes) (n : UnitNumber) (us vs : List LduValue) (o : Received) → OnlyLastIsFinal c us
    → shelved c n (us ++ vs) o ≡ shelved c (first_number c ((n.file + 1) % 256)) vs (closed n.file (concat (map (bytes_of c) us)) o)
shelved_append c n [] vs o h = absurd h
shelved_append c n (u ∷ []) vs o h =
    ap (λ m. shelved c m vs (put n.file (bytes_of c u) (is_final c u.flags) o)) (file_ends c n u h)
    ∙ ap (λ s. shelved c (first_number c ((n.file + 1) % 256)) vs s)
    (put_last c n.file (bytes_of c u) u o h ∙ ap (λ b. closed n.file b o) (sym (append-nil (bytes_of c u))))
shelved_append c n (u ∷ (v ∷ us)) vs o h =
    ap (λ s. shelved c (number_after c n u) ((v ∷ us) ++ vs) s) (put_more c n.file (bytes_of c u) u o h.0)
    ∙ shelved_append c (number_after c n u) (v ∷ us) vs more h.1
    ∙ ap (λ f. shelved c (first_number c ((f + 1) % 256)) vs (closed f (concat (map (bytes_of c) (v ∷ us))) more)) (file_goes c n u h.0)
    ∙ ap (λ (b : List ℕ). shelved c (first_number c ((n.file + 1) % 256)) vs (on b))
    (append_assoc o.open_bytes (bytes_of c u) (concat (map (bytes_of c) (v ∷ us))))
  where
    more : Received
    more = record { files = o.files; open_bytes = o.open_bytes ++ bytes_of c u }

    on : List ℕ → Received
    on b = record { files = o.files ++ record { number = n.file; bytes = b } ∷ []; open_bytes = [] }

-- the number of the file's next one is at most one more
after_few : (c : Codes) (n : UnitNumber) (u : LduValue) → is_final c u.flags ≡ false → (number_after c n u).ldu ≤ n.ldu + 1
after_few c n u e = rw e (omega arith)

-- the link data units of a file may be loaded, and then those behind it
pub fit_append : (p : Contents) (n : UnitNumber) (us vs : List LduValue) → AllByRecursion (IsLdu p) us → OnlyLastIsFinal p.codes us
    → n.ldu + length us ≤ p.codes.first_ldu + 255 → ((file : ℕ) → AllFit p (first_number p.codes file) vs) → AllFit p n (us ++ vs)
fit_append p n [] vs h l few k = absurd l
fit_append p n (u ∷ []) vs h l few k =
    (h.0, omega arith, subst (λ m. AllFit p m vs) (sym (file_ends p.codes n u l)) (k ((n.file + 1) % 256)))
fit_append p n (u ∷ (v ∷ us)) vs h l few k =
    let room = after_few p.codes n u l.0 in
    (h.0, omega arith, fit_append p (number_after p.codes n u) (v ∷ us) vs h.1 l.1 (omega (arith, room)) k)

-- how many there are
in_length : (p : Contents) (ps : List (List ℕ)) → length (units_in p ps) ≡ length ps
in_length p [] = refl
in_length p (a ∷ []) = refl
in_length p (a ∷ (b ∷ ps)) = ap suc (in_length p (b ∷ ps))

pieces_length : (most size : ℕ) (bytes : List ℕ) → length (pieces most size bytes) ≤ most
unfolding pieces
pieces_length zero size bytes = omega arith
pieces_length (suc most) size bytes = by_size (nat_le (length bytes) size) (pieces_length most size (drop size bytes))
  where
    by_size : (b : Bool) → length (pieces most size (drop size bytes)) ≤ most
        → length (cond b (bytes ∷ []) (take size bytes ∷ pieces most size (drop size bytes))) ≤ suc most
    by_size true h = omega arith
    by_size false h = omega arith

pub units_length : (p : Contents) (w : ℕ) (bytes : List ℕ) → length (units_of p w bytes) ≤ 255
units_length p w bytes = omega (arith, in_length p (pieces 255 (room w) bytes), pieces_length 255 (room w) bytes)

-- ---- all files

-- each was cut
abbrev pub EachCut : Contents → ℕ → List (List ℕ) → Type 0
EachCut p w [] = Unit {0}
EachCut p w (bytes ∷ files) = AreUnits p w bytes (units_of p w bytes) × EachCut p w files

pub all_fit : (p : Contents) (w : ℕ) (files : List (List ℕ))
    → EachCut p w files → (first : ℕ) → AllFit p (first_number p.codes first) (units_of_files p w files)
all_fit p w [] h first = tt
all_fit p w (bytes ∷ files) h first =
    fit_append p (first_number p.codes first) (units_of p w bytes) (units_of_files p w files)
    (recursion_from_All (IsLdu p) (units_of p w bytes) h.0.sound) h.0.last (omega (arith, units_length p w bytes)) (all_fit p w files h.1)

all_shelved : (p : Contents) (w first : ℕ) (files : List (List ℕ)) (done : List FileBytes) → EachCut p w files
    → (shelved p.codes (first_number p.codes first) (units_of_files p w files) (record { files = done; open_bytes = [] })).files ≡ done
    ++ numbered first files
all_shelved p w first [] done h = sym (append-nil done)
all_shelved p w first (bytes ∷ files) done h =
    ap files_of
    (shelved_append p.codes (first_number p.codes first) (units_of p w bytes) (units_of_files p w files)
    (record { files = done; open_bytes = [] }) h.0.last)
    ∙ ap (λ (b : List ℕ).
    files_of (shelved p.codes (first_number p.codes ((first + 1) % 256)) (units_of_files p w files)
    (record { files = done ++ record { number = first; bytes = b } ∷ []; open_bytes = [] })))
    h.0.joined
    ∙ all_shelved p w ((first + 1) % 256) files (done ++ record { number = first; bytes = bytes } ∷ []) h.1
    ∙ append_assoc done (record { number = first; bytes = bytes } ∷ []) (numbered ((first + 1) % 256) files)
  where
    files_of : Received → List FileBytes
    files_of s = s.files

trace_all : (gs : List (List Step)) (items : List Seen) → Records gs items → trace (all_steps gs) ≡ items
trace_all [] [] h = refl
trace_all (g ∷ gs) (i ∷ items) h = trace_append g (all_steps gs) ∙ ap (λ (l : List Seen). l ++ trace (all_steps gs)) h.0
    ∙ ap (λ (l : List Seen). i ∷ l) (trace_all gs items h.1)
trace_all [] (i ∷ items) h = absurd h
trace_all (g ∷ gs) [] h = absurd h

pub files_cross : (p : Contents) (w first : ℕ) (files : List (List ℕ)) → IsProfile p → first ≤ 255 → EachCut p w files
    → IsRunOf p first (clean_run_steps p w first files) (clean_words p w first files)
    (record { files = numbered first files; open_bytes = [] })
files_cross p w first files is l h =
    let us = units_of_files p w files in
    let fit = all_fit p w files h first in
    let ready = start_ready p first us l fit in
    let goes = clean_goes p is us (first_number p.codes first) None nothing_received 0 fit ready in
    let books = clean_books p is us (first_number p.codes first) None nothing_received 0 fit ready in
    record {
      run = goes.run;
      records =
          trace_all (clean_steps p.codes (first_number p.codes first) us) (clean_blocks p.codes (first_number p.codes first) us)
          (clean_records p.codes us (first_number p.codes first));
      gives = ap (λ (s : State). s.sink.received.files) goes.ends ∙ all_shelved p w first files [] h;
      offers = ap (λ (o : Received). o.files) books.offers ∙ all_shelved p w first files [] h;
      settles = books.settles ∙ all_shelved p w first files [] h;
    }

-- ---- the link data units still to come

-- the words so far, and those still to come, are all; so many are done, and the next one has a low number
pub record AreWords (c : Codes) (file : ℕ) (next : UnitNumber) (i : ℕ) (us : List LduValue) (old now : List Seen) : Type 0 where
  pub low : next.ldu ≤ c.first_ldu + i
  pub records : now ++ clean_blocks c next (drop i us) ≡ old ++ clean_blocks c (first_number c file) us

-- ---- the files still to come

-- the words so far with those still to come are all; no file so far is refused; and each was cut
pub record AreFiles (p : Contents) (w first file k : ℕ) (files : List (List ℕ)) (now : List Seen) : Type 0 where
  pub records : now ++ clean_words p w file (drop k files) ≡ clean_words p w first files
  pub refused : first_refused w k (drop k files) ≡ first_refused w 0 files
  pub each : EachCut p w (drop k files) → EachCut p w files

-- one more file is cut
pub files_more : (p : Contents) (w first file k : ℕ) (files : List (List ℕ)) (now new : List Seen) (f : List ℕ)
    → k < length files → f ≡ get_or files k f → cut_fault w f ≡ None → AreUnits p w f (units_of p w f)
    → new ≡ now ++ clean_blocks p.codes (first_number p.codes file) (units_of p w f) → AreFiles p w first file k files now
    → AreFiles p w first ((file + 1) % 256) (k + 1) files new
files_more p w first file k files now new f l ef none made en h =
    let split : drop k files ≡ f ∷ drop (k + 1) files = drop_more files k f l ∙ ap (λ (g : List ℕ). g ∷ drop (k + 1) files) (sym ef) in
    let rest = drop (k + 1) files in
    record {
      records =
          ap (λ (s : List Seen). s ++ clean_words p w ((file + 1) % 256) rest) en
          ∙ append_assoc now (clean_blocks p.codes (first_number p.codes file) (units_of p w f)) (clean_words p w ((file + 1) % 256) rest)
          ∙ ap (λ (s : List Seen). now ++ s)
          (sym (clean_append p.codes (first_number p.codes file) (units_of p w f) (units_of_files p w rest) made.last))
          ∙ ap (λ (fs : List (List ℕ)). now ++ clean_words p w file fs) (sym split)
          ∙ h.records;
      refused = sym (ap (λ (fs : List (List ℕ)). first_refused w k fs) split ∙ ap (λ o. refused_or k o (first_refused w (k + 1) rest)) none)
          ∙ h.refused;
      each = λ e. h.each (subst (EachCut p w) (sym split) (made, e));
    }

-- the next file is refused
pub files_refused : (p : Contents) (w first file k : ℕ) (files : List (List ℕ)) (now : List Seen) (f : List ℕ) (e : CutFault)
    → k < length files → f ≡ get_or files k f → cut_fault w f ≡ Some e → AreFiles p w first file k files now
    → first_refused w 0 files ≡ Some (Cut k e)
files_refused p w first file k files now f e l ef some h =
    let split : drop k files ≡ f ∷ drop (k + 1) files = drop_more files k f l ∙ ap (λ (g : List ℕ). g ∷ drop (k + 1) files) (sym ef) in
    sym h.refused ∙ ap (λ (fs : List (List ℕ)). first_refused w k fs) split
    ∙ ap (λ o. refused_or k o (first_refused w (k + 1) (drop (k + 1) files))) some

-- none is left
pub files_end : (p : Contents) (w first file k : ℕ) (files : List (List ℕ)) (now : List Seen) → length files ≤ k
    → AreFiles p w first file k files now → (now ≡ clean_words p w first files) × (first_refused w 0 files ≡ None) × EachCut p w files
files_end p w first file k files now l h =
    let none : drop k files ≡ [] = drop_all k files l in (
      sym (append-nil now) ∙ ap (λ (fs : List (List ℕ)). now ++ clean_words p w file fs) (sym none) ∙ h.records,
      sym h.refused ∙ ap (λ (fs : List (List ℕ)). first_refused w k fs) none,
      h.each (subst (EachCut p w) (sym none) tt),
    )

-- ---- what cutting a file answers

pub empty_refused : (w : ℕ) (f : List ℕ) → length f ≡ 0 → cut_fault w f ≡ Some cut.Empty
empty_refused w f e = rw (eq-eqb (length f) 0 e) refl

not_zero : (a b : ℕ) → a < b → b ≢ 0
not_zero a b l = λ e. omega arith

pub long_refused : (w : ℕ) (f : List ℕ) → 255 * room w < length f → cut_fault w f ≡ Some cut.TooLong
long_refused w f l = rw (ne_eqb (length f) 0 (not_zero _ _ l)) (rw (lt-ltb (255 * room w) (length f) l) refl)

not_less : (a b : ℕ) → (a < b → ⊥) → b ≤ a
not_less a b h = omega arith

pub fine_cut : (w : ℕ) (f : List ℕ) → (length f ≡ 0 → ⊥) → (255 * room w < length f → ⊥) → cut_fault w f ≡ None
fine_cut w f some few = rw (ne_eqb (length f) 0 some) (rw (le-ltb (255 * room w) (length f) (not_less _ _ few)) refl)

pub are_units : (p : Contents) (w : ℕ) (f : List ℕ) (us : List LduValue) → us ≡ units_of p w f → All (IsLdu p) us
    → All (λ u. count_of u ≤ w) us → concat (map (bytes_of p.codes) us) ≡ f → OnlyLastIsFinal p.codes us → AreUnits p w f (units_of p w f)
are_units p w f us e s n j l = subst (AreUnits p w f) e (record { sound = s; fits = n; joined = j; last = l })

-- the file at a place
pub file_at : {Z : Type 0} (xs : List (Vec ℕ Z)) (k : ℕ) (v : Vec ℕ Z) (f : List ℕ) → k < length xs → v ≡ get_or xs k v → f ≡ v.items
    → (k < length (map (λ (x : Vec ℕ Z). x.items) xs)) × (f ≡ get_or (map (λ (x : Vec ℕ Z). x.items) xs) k f)
file_at {Z} xs k v f l ev ef = (
  omega (arith, length-map xs (λ (x : Vec ℕ Z). x.items)),
  ef ∙ ap (λ (x : Vec ℕ Z). x.items) ev ∙ sym (get_or-map (λ (x : Vec ℕ Z). x.items) xs k v f l),
)

pub past_files : {Z : Type 0} (xs : List (Vec ℕ Z)) (k : ℕ) → length xs ≤ k → length (map (λ (x : Vec ℕ Z). x.items) xs) ≤ k
past_files {Z} xs k l = omega (arith, length-map xs (λ (x : Vec ℕ Z). x.items))
