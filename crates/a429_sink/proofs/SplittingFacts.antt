-- A recording in pieces, while it is read.
use Rattle.std.proofs.Common.{◌≡◌, ℕ, zero, suc, ◌<◌, ◌≤◌, ◌+◌, ◌-◌, ◌⊎◌, Bool, true, false, min, List, [], ◌∷◌, ◌++◌, length, take, drop, get_or, Option, Some, None, Result, Ok, Err, slice_get, refl, sym, ap, ◌∙◌, subst, inl, inr, arith}
use Rattle.std.specs.Prelude.{IfSome, OnOk, Vec, cond, map, nat_le}
use Rattle.std.specs.Global.{Global}
use Rattle.std.proofs.lemmas.List.{append_assoc, append-nil, drop-append-le, drop_all, take_all, drop-drop, drop-map, length-append, length-drop, length-map, length-take-le, map-append, take-append-drop, take-append-le, take-map, take_more}
use Rattle.std.proofs.lemmas.Option.{get_or_from_slice_get, slice_get_past, slice_get_read, slice_get_within}
use Rattle.a429_profile.specs.declared.codes.Codes.{Codes}
use Rattle.a429_profile.specs.Profile.{Contents}
use Rattle.a429_link.specs.declared.file.FileBytes.{FileBytes}
use Rattle.a429_link.specs.declared.seen.Seen.{Seen}
use Rattle.a429_record.specs.declared.entry.Entry.{Entry}
use Rattle.a429_cert.specs.Explained.{items_of, seen_of}
use Rattle.a429_record.specs.declared.fault.ReadFault.{ReadFault}
use Rattle.a429_record.specs.declared.fault.ReadFault.TheVariants as read
use Rattle.a429_record.specs.Recording.{Recording}
use Rattle.a429_record.specs.Rows.{Stops}
use Rattle.a429_cert.proofs.ItemsFacts.{items_push}
use Rattle.a429_parts.specs.Cutting.{BeginsFile, next_start}
use Rattle.a429_parts.specs.Keeping.{Taken, with_entries}
use Rattle.a429_parts.proofs.KeepingFacts.{Came}
use Rattle.a429_sink.specs.declared.piece.PieceTrace.{PieceTrace}
use Rattle.a429_sink.specs.declared.piece.Settled.{Settled}
use Rattle.a429_sink.specs.declared.requests.Mark.{Mark}
use Rattle.a429_sink.specs.declared.requests.Start.TheVariants as start
use Rattle.a429_sink.specs.declared.splitting.Splitting.{Splitting}
use Rattle.a429_sink.specs.declared.stopping_trace.Stop.{Stop}
use Rattle.a429_sink.specs.declared.summary.PieceEnd.{PieceEnd}
use Rattle.a429_sink.specs.declared.summary.PieceSummary.{PieceSummary}
use Rattle.a429_sink.specs.declared.summary.Summaries.{Summaries}
use Rattle.a429_sink.specs.Anywhere.{sure_files}
use Rattle.a429_sink.specs.FileUnits.{left_at}
use Rattle.a429_sink.specs.History.{ArePieces, BeginsFileAt, EndsAt, IsLastPiece, IsTold, MayEnd, sound_words}
use Rattle.a429_sink.specs.Piece.{IsMark, IsPieceTrace, IsSettled, end_at_last, end_by, end_of, last_by, mark_of, settled_of, stop_at, told_at}
use Rattle.a429_sink.specs.Pieces.{Becomes, HasPut, IsBetweenPieces, PutPiece, PutPieces, SaidPiece, ended, put_of, with_more}
use Rattle.a429_sink.specs.Summary.{AreSummaries, AreTold, Says}
use Rattle.a429_sink.specs.Requests.{IsAt, IsMarked, IsUpToMark}
use Rattle.a429_sink.specs.StoppingTrace.{place_in, sure_in}
use Rattle.a429_sink.specs.Splitting.{AreFirstPieces, AreSaid, EndsPiece, EndsThere, Has, HasAll, HasBegunAnew, IsHolding, IsLeft, IsSplit, IsUpTo, PutsUntil, Replays, SeesNext, Splits, SplitsUntil, joined_said, said_at, words_of}
use Rattle.a429_sink.proofs.PieceFacts.{ends_at, ends_at_last, is_last, mark_now, settled_is, settled_past, may_inside}
use Rattle.a429_sink.proofs.RequestFacts.{may_end}

-- ---- lists

-- one part of a list after another
take_on : {A : Type 0} (n m : ℕ) (l : List A) → take n l ++ take m (drop n l) ≡ take (n + m) l
take_on {A} zero m l = let e : m ≡ 0 + m = omega arith in ap (λ (k : ℕ). take k l) e
take_on {A} (suc n) m [] = take_all m [] (omega arith) ∙ sym (take_all (suc n + m) [] (omega arith))
take_on {A} (suc n) m (x ∷ l) =
    let e : suc (n + m) ≡ suc n + m = omega arith in ap (λ (r : List A). x ∷ r) (take_on n m l) ∙ ap (λ (k : ℕ). take k (x ∷ l)) e

take_to : {A : Type 0} (n m : ℕ) (l : List A) → n ≤ m → take n l ++ take (m - n) (drop n l) ≡ take m l
take_to n m l h = let e : n + (m - n) ≡ m = omega (arith, h) in take_on n (m - n) l ∙ ap (λ (k : ℕ). take k l) e

drop_to : {A : Type 0} (n m : ℕ) (l : List A) → n ≤ m → drop (m - n) (drop n l) ≡ drop m l
drop_to n m l h = let e : n + (m - n) ≡ m = omega (arith, h) in drop-drop (m - n) n l ∙ ap (λ (k : ℕ). drop k l) e

-- ---- nothing is seen yet

nothing_sure : (p : Contents) (t : PieceTrace) → IsPieceTrace p [] t → [] ≡ sure_in p [] t.trace
nothing_sure p t is = by (place_in t.trace.stop)
  where
    by : (k : Option ℕ) → [] ≡ sure_files p (sound_words [] k)
    by None = refl
    by (Some zero) = refl
    by (Some (suc n)) = refl

nothing_settled : (t : PieceTrace) → IsSettled (record { entries = 0; files = 0 }) t
nothing_settled t = record { entries = omega arith; files = omega arith; place = by t.requests.place; doubt = by t.requests.doubt }
  where
    by : (o : Option Mark) → IfSome o (λ m. (0 ≤ m.place) × (0 ≤ m.files))
    by None = tt
    by (Some m) = (omega arith, omega arith)

-- ---- pieces that were put

words-push : (said : List SaidPiece) (s : SaidPiece) → words_of (said ++ s ∷ []) ≡ words_of said ++ items_of s.entries ∷ []
words-push said s = map-append (λ (s : SaidPiece). items_of s.entries) said (s ∷ [])

joined-push : (said : List SaidPiece) (s : SaidPiece) → joined_said (said ++ s ∷ []) ≡ joined_said said ++ s.entries
joined-push [] s = append-nil s.entries
joined-push (x ∷ said) s =
    ap (λ (l : List Entry). x.entries ++ l) (joined-push said s) ∙ sym (append_assoc x.entries (joined_said said) s.entries)

said-push : (p : Contents) (said : List SaidPiece) (s : SaidPiece) → AreSaid p said → IsTold p (items_of s.entries) s.told
    → IfSome s.stop (λ k. slice_get (items_of s.entries) k.place ≡ Some k.seen) → AreSaid p (said ++ s ∷ [])
said-push p [] s h told word = (told, word, tt)
said-push p (x ∷ said) s (a, b, h) told word = (a, b, said-push p said s h told word)

first-push : (p : Contents) (items : List Seen) (pieces : List (List Seen)) (left piece rest : List Seen)
    → AreFirstPieces p items pieces left → piece ++ rest ≡ left → EndsAt p left (length piece)
    → AreFirstPieces p items (pieces ++ piece ∷ []) rest
first-push p items [] left piece rest is all ends =
    (rest, all ∙ sym is, subst (λ (l : List Seen). EndsAt p l (length piece)) (sym is) ends, refl)
first-push p items (x ∷ pieces) left piece rest (more, is, here, h) all ends =
    (more, is, here, first-push p more pieces left piece rest h all ends)

-- the first pieces, and the last one
all_pieces : (p : Contents) (items : List Seen) (pieces : List (List Seen)) (left : List Seen)
    → AreFirstPieces p items pieces left → IsLastPiece p left → ArePieces p items (pieces ++ left ∷ [])
all_pieces p items [] left is last = (sym is, subst (IsLastPiece p) (sym is) last)
all_pieces p items (x ∷ []) left (more, is, here, h) last = (more, is, here, all_pieces p more [] left h last)
all_pieces p items (x ∷ (y ∷ pieces)) left (more, is, here, h) last = (more, is, here, all_pieces p more (y ∷ pieces) left h last)

-- ---- what is put

put_first : (a : Option PutPieces) (t : Summaries) → IsBetweenPieces a → AreTold [] [] t → Has a a t [] [] []
put_first a t between told = (by a between, told)
  where
    by : (a : Option PutPieces) → IsBetweenPieces a → HasPut a a [] [] []
    by None h = tt
    by (Some s) (none, quiet) =
        ap (λ (l : List PutPiece). record { pieces = l; entries = s.entries; files = s.files }) (sym (append-nil s.pieces))
        ∙ ap (λ (l : List Entry). record { pieces = s.pieces ++ []; entries = l; files = s.files }) none
        ∙ ap (λ (l : List FileBytes). record { pieces = s.pieces ++ []; entries = []; files = l }) quiet

put_more : (first before now : Option PutPieces) (said : List SaidPiece) (es more : List Entry) (files others : List FileBytes)
    → HasPut first before said es files → Becomes before now (with_more more others) → HasPut first now said (es ++ more) (files ++ others)
put_more None before now said es more files others h b = tt
put_more (Some s) None now said es more files others h b = absurd h
put_more (Some s) (Some k) None said es more files others h b = absurd b
put_more (Some s) (Some k) (Some n) said es more files others h b = b ∙ ap (with_more more others) h

put_end : (first before now : Option PutPieces) (said : List SaidPiece) (s : SaidPiece)
    → HasPut first before said s.entries s.told.files → Becomes before now ended → HasPut first now (said ++ s ∷ []) [] []
put_end None before now said p h b = tt
put_end (Some s) None now said p h b = absurd h
put_end (Some s) (Some k) None said p h b = absurd b
put_end (Some s) (Some k) (Some n) said p h b = b ∙ ap ended h
    ∙ ap (λ (l : List PutPiece). record { pieces = l; entries = []; files = [] }) (append_assoc s.pieces (map put_of said) (put_of p ∷ [])
    ∙ ap (λ (l : List PutPiece). s.pieces ++ l) (sym (map-append put_of said (p ∷ []))))

put_same : (first now : Option PutPieces) (t : Summaries) (said : List SaidPiece) (es es' : List Entry) (fs fs' : List FileBytes)
    → es ≡ es' → fs ≡ fs' → Has first now t said es fs → Has first now t said es' fs'
put_same first now t said es es' fs fs' e f h =
    subst (λ (l : List Entry). Has first now t said l fs') e (subst (λ (l : List FileBytes). Has first now t said es l) f h)

-- what the code takes is so many: no more is wanted than is held
pub put_sizes : (upto : Settled) (old : Splitting) (es : List Entry) (sure : List FileBytes) (entries files : ℕ)
    → IsHolding old es sure → IsUpTo upto old.put es sure
    → entries ≡ min (upto.entries - old.put.entries) (length old.held.items) → files ≡ upto.files - old.put.files
    → (entries ≡ upto.entries - old.put.entries) × (files ≡ upto.files - old.put.files)
put_sizes upto old es sure entries files holds up e f =
    (omega (arith, e, up.few, holds.few, ap length holds.held, length-drop old.put.entries es), f)

-- so many of what is held
pub until_more : (upto : Settled) (before now : Option PutPieces) (old new : Splitting) (entries files : ℕ) (front : List FileBytes)
    → new.put ≡ upto
    → ((es : List Entry) (sure : List FileBytes) → IsHolding old es sure → IsUpTo upto old.put es sure
    → (entries ≡ upto.entries - old.put.entries) × (files ≡ upto.files - old.put.files))
    → front ≡ take files old.files.items → Becomes before now (with_more (take entries old.held.items) front)
    → ((said : List SaidPiece) (fs : List FileBytes) → AreTold said fs old.summaries → AreTold said (fs ++ front) new.summaries)
    → new.held.items ≡ drop entries old.held.items → new.files.items ≡ drop files old.files.items → PutsUntil upto before now old new
until_more upto before now old new entries files front put sizes taken becomes tells held left = λ first said es sure holds up has.
    let n = sizes es sure holds up in
    let some : take entries old.held.items ≡ take (upto.entries - old.put.entries) (drop old.put.entries es) =
    ap (λ (k : ℕ). take k old.held.items) n.0 ∙ ap (take (upto.entries - old.put.entries)) holds.held in
    let some_files : front ≡ take (upto.files - old.put.files) (drop old.put.files sure) =
    taken ∙ ap (λ (k : ℕ). take k old.files.items) n.1 ∙ ap (take (upto.files - old.put.files)) holds.files in (
      put_same first now new.summaries said _ _ _ _
          (ap (λ (l : List Entry). take old.put.entries es ++ l) some ∙ take_to old.put.entries upto.entries es up.entries)
          (ap (λ (l : List FileBytes). take old.put.files sure ++ l) some_files ∙ take_to old.put.files upto.files sure up.files)
          (put_more first before now said _ _ _ _ has.0 becomes, tells said _ has.1),
      record {
        held = held ∙ ap (λ (k : ℕ). drop k old.held.items) n.0 ∙ ap (drop (upto.entries - old.put.entries)) holds.held
            ∙ drop_to old.put.entries upto.entries es up.entries ∙ ap (λ (s : Settled). drop s.entries es) (sym put);
        files = left ∙ ap (λ (k : ℕ). drop k old.files.items) n.1 ∙ ap (drop (upto.files - old.put.files)) holds.files
            ∙ drop_to old.put.files upto.files sure up.files ∙ ap (λ (s : Settled). drop s.files sure) (sym put);
        few = subst (λ (s : Settled). s.entries ≤ length es) (sym put) up.few;
        few_files = subst (λ (s : Settled). s.files ≤ length sure) (sym put) up.few_files;
      },
      put,
    )

pub piece_ends : (c : Codes) (m : Mark) (before mid now : Option PutPieces) (old put new : Splitting) (e : PieceEnd)
    → PutsUntil (record { entries = m.place; files = m.files }) before mid old put → Becomes mid now ended
    → ((said : List SaidPiece) (s : SaidPiece) → AreTold said s.told.files put.summaries → Says s e
    → AreTold (said ++ s ∷ []) [] new.summaries)
    → e.entries ≡ m.place → e.begun_before ≡ m.begun_before → e.stop ≡ stop_at m.place old.piece.trace.stop
    → e.units.items ≡ left_at c m.units old.piece.trace.trace.units
    → ((p : Contents) → IsPieceTrace p [] new.piece) → new.put ≡ record { entries = 0; files = 0 } → new.files.items ≡ []
    → new.held ≡ put.held → EndsPiece c m before now old new
piece_ends c m before mid now old put new e puts becomes tells size begun stop units piece nothing none held = record {
  piece = piece;
  put = nothing;
  files = none;
  puts = λ first said es sure holds up has.
      let done = puts first said es sure holds up has in
      let one = said_at c old m es sure in
      let says : Says one e =
      record { entries = size ∙ sym (length-take-le m.place es up.few); begun = begun; stop = stop; units = units } in (
        (put_end first mid now said one done.0.0 becomes, tells said one done.0.1 says),
        ap (λ (v : Vec Entry Global). v.items) held ∙ done.1.held ∙ ap (λ (s : Settled). drop s.entries es) done.2,
      );
}

-- ---- a piece that ends

-- the words after a place, where no file begins later
no_later : (p : Contents) (items : List Seen) (n m : ℕ) → BeginsFileAt p (drop n items) m → BeginsFileAt p items (n + m)
no_later p items zero m h = let e : m ≡ 0 + m = omega arith in subst (BeginsFileAt p items) e h
no_later p [] (suc n) m h = h
no_later p (x ∷ items) (suc n) m h =
    let e : suc (n + m) ≡ suc n + m = omega arith in subst (BeginsFileAt p (x ∷ items)) e (no_later p items n m h)

first_items : (n : ℕ) (es : List Entry) → take n (items_of es) ≡ items_of (take n es)
first_items n es = take-map seen_of n es

module _ (p : Contents) (at_end : Bool) (first before now : Option PutPieces) (entries : List Entry) (old new : Splitting) (m : Mark) where
  -- that a mark is one of this piece
  marks : (is : IsSplit p at_end first before entries old) → EndsThere at_end old m
      → IsMark p (items_of is.es) old.piece.trace m × (0 < m.place)
      × (((rest : List Seen) → IsLeft at_end rest → EndsAt p (items_of is.es ++ rest) m.place) × (old.piece.requests.place ≡ Some m))
  marks is (inl e) =
      let h = ends_at p (items_of is.es) old.piece is.piece m e in
      (h.0, h.1, (λ rest l. h.2 rest, at_place old.piece.trace.stop old.piece.requests.place old.piece.requests.doubt e))
    where
      at_place : (stop : Option Stop) (place doubt : Option Mark) → end_by stop place doubt ≡ Some m → place ≡ Some m
      at_place None place doubt e = absurd (cc e)
      at_place (Some s) None doubt e = absurd (cc e)
      at_place (Some s) (Some k) None e = e
      at_place (Some s) (Some k) (Some d) e = by (nat_le d.place s.place) e
        where
          by : (b : Bool) → cond b None (Some k) ≡ Some m → Some k ≡ Some m
          by true e = absurd (cc e)
          by false e = e
  marks is (inr (end, e)) =
      let h = ends_at_last p (items_of is.es) old.piece is.piece m e in
      (h.0, h.1, (λ rest l. at_last rest (subst (λ (b : Bool). IsLeft b rest) end l) h.2, at_place old.piece.trace.stop e))
    where
      at_last : (rest : List Seen) → rest ≡ [] → EndsAt p (items_of is.es) m.place → EndsAt p (items_of is.es ++ rest) m.place
      at_last rest none h =
          subst (λ (l : List Seen). EndsAt p l m.place)
          (sym (ap (λ (l : List Seen). items_of is.es ++ l) none ∙ append-nil (items_of is.es))) h

      at_place : (stop : Option Stop) → last_by stop old.piece.requests.place ≡ Some m → old.piece.requests.place ≡ Some m
      at_place None e = absurd (cc e)
      at_place (Some s) e = e

  up_to : (is : IsSplit p at_end first before entries old)
      → IsMark p (items_of is.es) old.piece.trace m → (k : old.piece.requests.place ≡ Some m)
      → IsUpTo (record { entries = m.place; files = m.files }) old.put is.es (sure_in p (items_of is.es) old.piece.trace)
  up_to is mark k =
      let put = subst (λ (o : Option Mark). IfSome o (λ n. (old.put.entries ≤ n.place) × (old.put.files ≤ n.files))) k is.put.place in
      record {
        entries = put.0;
        files = put.1;
        few = omega (arith, mark.place, is.piece.trace.size, length-map is.es seen_of);
        few_files = omega (arith, mark.files, is.piece.trace.files);
      }

  -- no file begins after the first word
  never : (is : IsSplit p at_end first before entries old)
      → old.piece.requests.place ≡ Some m → (n : ℕ) → 0 < n → BeginsFileAt p (drop m.place (items_of is.es)) n → ⊥
  never is k n some h =
      off (subst (λ (o : Option Mark). IsUpToMark (m.place + n) o
      ⊎ (IsAt (m.place + n) old.piece.requests.doubt × BeginsFile p.codes (next_start p.codes []))) k
      (is.piece.requests.others [] (m.place + n) (may_inside p (items_of is.es) (m.place + n) there)
      (subst (λ (l : List Seen). MayEnd p l (m.place + n)) (sym (append-nil (items_of is.es))) (omega (arith, some), there))))
    where
      there : BeginsFileAt p (items_of is.es) (m.place + n)
      there = no_later p (items_of is.es) m.place n h

      off : (m.place + n ≤ m.place) ⊎ (IsAt (m.place + n) old.piece.requests.doubt × BeginsFile p.codes (next_start p.codes [])) → ⊥
      off (inl l) = omega (arith, l, some)
      off (inr b) = b.1

  pub replays : IsSplit p at_end first before entries old → EndsThere at_end old m → EndsPiece p.codes m before now old new
      → Replays p at_end first now entries 0 new
  replays is there ends =
      let h = marks is there in
      let mark = h.0 in
      let sure = sure_in p (items_of is.es) old.piece.trace in
      let puts = ends.puts first is.said is.es sure is.holds (up_to is mark h.2.1) is.known in
      let size : length (items_of (take m.place is.es)) ≡ m.place = length-map (take m.place is.es) seen_of
      ∙ length-take-le m.place is.es (omega (arith, mark.place, is.piece.trace.size, length-map is.es seen_of)) in
      let one = said_at p.codes old m is.es sure in record {
        said = is.said ++ one ∷ [];
        es = drop m.place is.es;
        all = ap (λ (l : List Entry). l ++ drop m.place is.es) (joined-push is.said one)
            ∙ append_assoc (joined_said is.said) (take m.place is.es) (drop m.place is.es)
            ∙ ap (λ (l : List Entry). joined_said is.said ++ l) (take-append-drop m.place is.es) ∙ is.all;
        ends =
            λ rest l.
            subst (λ (ws : List (List Seen)). AreFirstPieces p (items_of entries ++ rest) ws (items_of (drop m.place is.es) ++ rest))
            (sym (words-push is.said one))
            (first-push p (items_of entries ++ rest) (words_of is.said) (items_of is.es ++ rest) (items_of (take m.place is.es))
            (items_of (drop m.place is.es) ++ rest) (is.ends rest l)
            (sym (append_assoc (items_of (take m.place is.es)) (items_of (drop m.place is.es)) rest) ∙ ap (λ (k : List Seen). k ++ rest)
            (sym (map-append seen_of (take m.place is.es) (drop m.place is.es)) ∙ ap items_of (take-append-drop m.place is.es)))
            (subst (EndsAt p (items_of is.es ++ rest)) (sym size) (h.2.0 rest l)));
        told =
            said-push p is.said one is.told
            (subst (λ (k : List Seen). IsTold p k (told_at p.codes old.piece.trace sure m)) (first_items m.place is.es) mark.told)
            (subst (λ (k : List Seen). IfSome (stop_at m.place old.piece.trace.stop) (λ s. slice_get k s.place ≡ Some s.seen))
            (first_items m.place is.es) mark.word);
        known = puts.0;
        never = λ n some b. never is h.2.1 n some (subst (λ (l : List Seen). BeginsFileAt p l n) (sym (drop-map seen_of m.place is.es)) b);
        put = ends.put;
        held = puts.1;
        few = omega arith;
        piece = ends.piece p;
        files = ends.files ∙ nothing_sure p new.piece (ends.piece p);
      }

-- ---- entries that are seen again

-- no file begins with a request of them, as far as is known
no_place : (p : Contents) (es : List Entry) (n : ℕ) (t : PieceTrace)
    → ((m : ℕ) → 0 < m → BeginsFileAt p (items_of es) m → ⊥) → IsPieceTrace p (items_of (take n es)) t → t.requests.place ≡ None
no_place p es n t never is = by t.requests.place refl
  where
    by : (place : Option Mark) → t.requests.place ≡ place → place ≡ None
    by None e = refl
    by (Some m) e =
        let may =
        may_end p (items_of (take n es)) (items_of (drop n es)) m
        (subst (λ (o : Option Mark). IfSome o (IsMarked p (items_of (take n es)) start.OfFile)) e is.requests.place) in
        absurd (never m.place may.0 (subst (λ (l : List Seen). BeginsFileAt p l m.place)
        (sym (map-append seen_of (take n es) (drop n es)) ∙ ap items_of (take-append-drop n es)) may.1))

pub goes_on : (t : PieceTrace) → t.requests.place ≡ None → end_of t ≡ None
goes_on t e = ap (λ (o : Option Mark). end_by t.trace.stop o t.requests.doubt) e ∙ by t.trace.stop
  where
    by : (s : Option Stop) → end_by s None t.requests.doubt ≡ None
    by None = refl
    by (Some s) = refl

module _ (p : Contents) (at_end : Bool) (first now : Option PutPieces) (entries : List Entry) where
  pub replay_more : (next : ℕ) (e : Entry) (old new : Splitting) → slice_get old.held.items next ≡ Some e
      → ((items : List Seen) → SeesNext p items e old new) → new.put ≡ old.put → new.held ≡ old.held → new.summaries ≡ old.summaries
      → Replays p at_end first now entries next old → Replays p at_end first now entries (next + 1) new
  replay_more next e old new get sees put held told is =
      let here : slice_get is.es next ≡ Some e = ap (λ (l : List Entry). slice_get l next) (sym is.held) ∙ get in
      let inside = slice_get_within is.es next e here in
      let more : take (next + 1) is.es ≡ take next is.es ++ e ∷ [] =
      take_more is.es next e inside ∙ ap (λ (x : Entry). take next is.es ++ x ∷ []) (get_or_from_slice_get is.es next e e here) in
      let items : items_of (take (next + 1) is.es) ≡ items_of (take next is.es) ++ seen_of e ∷ [] =
      ap items_of more ∙ items_push (take next is.es) e in
      let s = sees (items_of (take next is.es)) in record {
        said = is.said;
        es = is.es;
        all = is.all;
        ends = is.ends;
        told = is.told;
        known = subst (λ (t : Summaries). Has first now t is.said [] []) (sym told) is.known;
        never = is.never;
        put = put ∙ is.put;
        held = ap (λ (v : Vec Entry Global). v.items) held ∙ is.held;
        few = omega (arith, inside);
        piece =
            subst (λ (l : List Seen). IsPieceTrace p l new.piece) (sym items)
            (s.piece is.piece (goes_on old.piece (no_place p is.es next old.piece is.never is.piece)));
        files = s.more ∙ ap (λ (l : List FileBytes). l ++ s.files) is.files ∙ sym (s.sure is.piece)
            ∙ ap (λ (l : List Seen). sure_in p l new.piece.trace) (sym items);
      }

  -- all of them
  pub replayed : (next : ℕ) (s : Splitting)
      → slice_get s.held.items next ≡ None → Replays p at_end first now entries next s → HasBegunAnew p at_end first now entries s
  replayed next s none is =
      let whole : take next is.es ≡ is.es = all_taken next (subst (λ (l : List Entry). slice_get l next ≡ None) is.held none) in
      let piece : IsPieceTrace p (items_of is.es) s.piece =
      subst (λ (l : List Entry). IsPieceTrace p (items_of l) s.piece) whole is.piece in record {
        is = record {
          said = is.said;
          es = is.es;
          all = is.all;
          ends = is.ends;
          told = is.told;
          piece = piece;
          put = subst (λ (u : Settled). IsSettled u s.piece) (sym is.put) (nothing_settled s.piece);
          holds = record {
            held = is.held ∙ ap (λ (u : Settled). drop u.entries is.es) (sym is.put);
            files = is.files ∙ ap (λ (l : List Entry). sure_in p (items_of l) s.piece.trace) whole
                ∙ ap (λ (u : Settled). drop u.files (sure_in p (items_of is.es) s.piece.trace)) (sym is.put);
            few = subst (λ (u : Settled). u.entries ≤ length is.es) (sym is.put) (omega arith);
            few_files = subst (λ (u : Settled). u.files ≤ length (sure_in p (items_of is.es) s.piece.trace)) (sym is.put) (omega arith);
          };
          known =
              put_same first now s.summaries is.said _ _ _ _ (ap (λ (u : Settled). take u.entries is.es) (sym is.put))
              (ap (λ (u : Settled). take u.files (sure_in p (items_of is.es) s.piece.trace)) (sym is.put)) is.known;
        };
        goes = no_place p is.es next s.piece is.never is.piece;
      }
    where
      past : (l : List Entry) (n : ℕ) → slice_get l n ≡ None → take n l ≡ l
      past [] zero h = refl
      past [] (suc n) h = refl
      past (x ∷ l) zero h = absurd (cc h)
      past (x ∷ l) (suc n) h = ap (λ (r : List Entry). x ∷ r) (past l n h)

      all_taken : (n : ℕ) → slice_get is.es n ≡ None → take n is.es ≡ is.es
      all_taken n h = past is.es n h

-- ---- one more entry

pub split_first : (p : Contents) (known : Option PutPieces) (s : Splitting)
    → IsBetweenPieces known → IsPieceTrace p [] s.piece → end_of s.piece ≡ None → s.put ≡ record { entries = 0; files = 0 }
    → s.held.items ≡ [] → s.files.items ≡ [] → AreTold [] [] s.summaries → Splits p false known known [] s
split_first p known s between piece goes put held files told = record {
  is = record {
    said = [];
    es = [];
    all = refl;
    ends = λ rest l. refl;
    told = tt;
    piece = piece;
    put = subst (λ (u : Settled). IsSettled u s.piece) (sym put) (nothing_settled s.piece);
    holds = record {
      held = held ∙ sym (drop_all s.put.entries [] (omega arith));
      files = files ∙ sym (ap (λ (u : Settled). drop u.files (sure_in p [] s.piece.trace)) put ∙ sym (nothing_sure p s.piece piece));
      few = subst (λ (u : Settled). u.entries ≤ 0) (sym put) (omega arith);
      few_files = subst (λ (u : Settled). u.files ≤ length (sure_in p [] s.piece.trace)) (sym put) (omega arith);
    };
    known =
        put_same known known s.summaries [] [] (take s.put.entries []) [] (take s.put.files (sure_in p [] s.piece.trace))
        (sym (take_all s.put.entries [] (omega arith))) (ap (λ (u : Settled). take u.files (sure_in p [] s.piece.trace)) (sym put))
        (put_first known s.summaries between told);
  };
  goes = goes;
}

pub split_more : (p : Contents) (first now : Option PutPieces) (entries : List Entry) (e : Entry) (old mid new : Splitting)
    → Splits p false first now entries old → mid.piece ≡ old.piece → mid.files ≡ old.files → mid.put ≡ old.put
    → mid.held.items ≡ old.held.items ++ e ∷ []
    → ((items : List Seen) → SeesNext p items e mid new) → (new.put ≡ mid.put) × (new.held ≡ mid.held) × (new.summaries ≡ mid.summaries)
    → mid.summaries ≡ old.summaries → IsSplit p false first now (entries ++ e ∷ []) new
split_more p first now entries e old mid new splits same_piece same_files same_put pushed sees same same_told =
    let is = splits.is in
    let was = is.es in
    let s = sees (items_of was) in
    let before : IsPieceTrace p (items_of was) mid.piece = subst (IsPieceTrace p (items_of was)) (sym same_piece) is.piece in
    let items : items_of (was ++ e ∷ []) ≡ items_of was ++ seen_of e ∷ [] = items_push was e in
    let put : new.put ≡ old.put = same.0 ∙ same_put in
    let sure : sure_in p (items_of (was ++ e ∷ [])) new.piece.trace ≡ sure_in p (items_of was) old.piece.trace ++ s.files =
    ap (λ (l : List Seen). sure_in p l new.piece.trace) items ∙ s.sure before
    ∙ ap (λ (t : PieceTrace). sure_in p (items_of was) t.trace ++ s.files) same_piece in
    record {
      said = is.said;
      es = was ++ e ∷ [];
      all = sym (append_assoc (joined_said is.said) was (e ∷ [])) ∙ ap (λ (l : List Entry). l ++ e ∷ []) is.all;
      ends =
          λ rest l. subst (λ (k : List Seen). AreFirstPieces p k (words_of is.said) (items_of (was ++ e ∷ []) ++ rest))
          (sym (ap (λ (k : List Seen). k ++ rest) (items_push entries e) ∙ append_assoc (items_of entries) (seen_of e ∷ []) rest))
          (subst (AreFirstPieces p (items_of entries ++ seen_of e ∷ rest) (words_of is.said))
          (sym (ap (λ (k : List Seen). k ++ rest) items ∙ append_assoc (items_of was) (seen_of e ∷ []) rest))
          (is.ends (seen_of e ∷ rest) tt));
      told = is.told;
      piece = subst (λ (l : List Seen). IsPieceTrace p l new.piece) (sym items) (s.piece before (ap end_of same_piece ∙ splits.goes));
      put =
          s.settled new.put (subst (λ (u : Settled). IsSettled u mid.piece) (sym put) (subst (IsSettled old.put) (sym same_piece) is.put));
      holds = record {
        held = ap (λ (v : Vec Entry Global). v.items) same.1 ∙ pushed ∙ ap (λ (l : List Entry). l ++ e ∷ []) is.holds.held
            ∙ sym (drop-append-le old.put.entries was (e ∷ []) is.holds.few)
            ∙ ap (λ (u : Settled). drop u.entries (was ++ e ∷ [])) (sym put);
        files = s.more ∙ ap (λ (v : Vec FileBytes Global). v.items ++ s.files) same_files
            ∙ ap (λ (l : List FileBytes). l ++ s.files) is.holds.files
            ∙ sym (drop-append-le old.put.files (sure_in p (items_of was) old.piece.trace) s.files is.holds.few_files)
            ∙ ap (drop old.put.files) (sym sure)
            ∙ ap (λ (u : Settled). drop u.files (sure_in p (items_of (was ++ e ∷ [])) new.piece.trace)) (sym put);
        few =
            subst (λ (u : Settled). u.entries ≤ length (was ++ e ∷ [])) (sym put) (omega (arith, is.holds.few, length-append was (e ∷ [])));
        few_files = subst (λ (u : Settled). u.files ≤ length (sure_in p (items_of (was ++ e ∷ [])) new.piece.trace)) (sym put)
            (omega (arith, is.holds.few_files, ap length sure, length-append (sure_in p (items_of was) old.piece.trace) s.files));
      };
      known = put_same first now new.summaries is.said _ _ _ _
          (sym (take-append-le old.put.entries was (e ∷ []) is.holds.few) ∙ ap (λ (u : Settled). take u.entries (was ++ e ∷ [])) (sym put))
          (sym (take-append-le old.put.files (sure_in p (items_of was) old.piece.trace) s.files is.holds.few_files)
          ∙ ap (take old.put.files) (sym sure)
          ∙ ap (λ (u : Settled). take u.files (sure_in p (items_of (was ++ e ∷ [])) new.piece.trace)) (sym put))
          (subst (λ (t : Summaries).
          Has first now t is.said (take old.put.entries was) (take old.put.files (sure_in p (items_of was) old.piece.trace)))
          (sym (same.2 ∙ same_told)) is.known);
    }

-- what belongs to the piece is put
pub split_put : (p : Contents) (at_end : Bool) (first before now : Option PutPieces) (entries : List Entry) (old new : Splitting)
    → Splits p at_end first before entries old → new.piece ≡ old.piece → PutsUntil (settled_of old.piece) before now old new
    → Splits p at_end first now entries new
split_put p at_end first before now entries old new splits same puts =
    let is = splits.is in
    let s = settled_of old.piece in
    let settled = settled_is p (items_of is.es) old.piece is.piece in
    let past = settled_past old.put old.piece is.put in
    let sure = sure_in p (items_of is.es) old.piece.trace in
    let up : IsUpTo s old.put is.es sure = record {
      entries = past.0;
      files = past.1;
      few = omega (arith, settled.entries, is.piece.trace.size, length-map is.es seen_of);
      few_files = omega (arith, settled.files, is.piece.trace.files);
    } in
    let done = puts first is.said is.es sure is.holds up is.known in
    let after : sure ≡ sure_in p (items_of is.es) new.piece.trace =
    ap (λ (t : PieceTrace). sure_in p (items_of is.es) t.trace) (sym same) in
    record {
      is = record {
        said = is.said;
        es = is.es;
        all = is.all;
        ends = is.ends;
        told = is.told;
        piece = subst (IsPieceTrace p (items_of is.es)) (sym same) is.piece;
        put = subst (IsSettled new.put) (sym same) (subst (λ (u : Settled). IsSettled u old.piece) (sym done.2) settled);
        holds = subst (IsHolding new is.es) after done.1;
        known =
            put_same first now new.summaries is.said _ _ _ _ (ap (λ (u : Settled). take u.entries is.es) (sym done.2))
            (ap (λ (u : Settled). take u.files sure) (sym done.2) ∙ ap (take new.put.files) after) done.0;
      };
      goes = ap end_of same ∙ splits.goes;
    }

-- ---- the end

pub at_the_end : (p : Contents) (first now : Option PutPieces) (entries : List Entry) (s : Splitting)
    → IsSplit p false first now entries s → IsSplit p true first now entries s
at_the_end p first now entries s is = record {
  said = is.said;
  es = is.es;
  all = is.all;
  ends = λ rest l. is.ends rest tt;
  told = is.told;
  piece = is.piece;
  put = is.put;
  holds = is.holds;
  known = is.known;
}

pub no_end : (t : PieceTrace) → t.requests.place ≡ None → end_at_last t ≡ None
no_end t e = ap (last_by t.trace.stop) e ∙ by t.trace.stop
  where
    by : (s : Option Stop) → last_by s None ≡ None
    by None = refl
    by (Some s) = refl

pub has_all : (p : Contents) (first before now : Option PutPieces) (entries : List Entry) (old new : Splitting)
    → IsSplit p true first before entries old → end_at_last old.piece ≡ None → EndsPiece p.codes (mark_of old.piece) before now old new
    → (told : List PieceSummary)
    → ((said : List SaidPiece) (files : List FileBytes) → AreTold said files new.summaries → AreSummaries 0 said told)
    → HasAll p first now told entries
has_all p first before now entries old new is none ends told tells =
    let m = mark_of old.piece in
    let mark = mark_now p (items_of is.es) old.piece is.piece in
    let sure = sure_in p (items_of is.es) old.piece.trace in
    let size : old.piece.trace.size ≡ length is.es = is.piece.trace.size ∙ length-map is.es seen_of in
    let up : IsUpTo (record { entries = m.place; files = m.files }) old.put is.es sure =
    record { entries = is.put.entries; files = is.put.files; few = omega (arith, size); few_files = omega (arith, is.piece.trace.files) } in
    let puts = ends.puts first is.said is.es sure is.holds up is.known in
    let one = said_at p.codes old m is.es sure in
    let whole : take m.place is.es ≡ is.es = take_all m.place is.es (omega (arith, size)) in record {
      said = is.said ++ one ∷ [];
      all = joined-push is.said one ∙ ap (λ (l : List Entry). joined_said is.said ++ l) whole ∙ is.all;
      are =
          subst (ArePieces p (items_of entries))
          (sym (words-push is.said one ∙ ap (λ (l : List Entry). words_of is.said ++ items_of l ∷ []) whole))
          (all_pieces p (items_of entries) (words_of is.said) (items_of is.es)
          (subst (λ (l : List Seen). AreFirstPieces p l (words_of is.said) (items_of is.es)) (append-nil (items_of entries))
          (subst (AreFirstPieces p (items_of entries ++ []) (words_of is.said)) (append-nil (items_of is.es)) (is.ends [] refl)))
          (is_last p (items_of is.es) old.piece is.piece none));
      is_said =
          said-push p is.said one is.told
          (subst (λ (k : List Seen). IsTold p k (told_at p.codes old.piece.trace sure m)) (first_items m.place is.es) mark.told)
          (subst (λ (k : List Seen). IfSome (stop_at m.place old.piece.trace.stop) (λ s. slice_get k s.place ≡ Some s.seen))
          (first_items m.place is.es) mark.word);
      summaries = tells _ [] puts.0.1;
      puts = puts.0.0;
    }

-- ---- as the code says it

pub on_ok_both : {T E A B C : Type 0} (r : Result T E) → (A → B → C) → OnOk r A → OnOk r B → OnOk r C
on_ok_both (Ok x) f a b = f a b
on_ok_both (Err e) f a b = tt

pub past_entries : (l held : List Entry) (next : ℕ) → l ≡ held → length l ≤ next → slice_get held next ≡ None
past_entries l held next e h = slice_get_past held next (omega (arith, h, ap length e))

pub at_entry : (l held : List Entry) (next : ℕ) (x : Entry)
    → l ≡ held → next < length l → x ≡ get_or l next x → slice_get held next ≡ Some x
at_entry l held next x e h is = subst (λ (k : List Entry). slice_get k next ≡ Some x) e (slice_get_read l (length l) next x refl h is)

-- a failed device, or no memory
pub splits_until : (p : Contents) (t : Taken) (first now : Option PutPieces) (left : Option Recording) (f : ReadFault) (es : List Entry)
    → Came t.recording es left → t.given ≡ length es → (f ≡ read.Device) ⊎ (f ≡ read.OutOfMemory) → SplitsUntil p t first now f
splits_until p t first now left f es came given either = record { entries = es; came = given; stops = by t.recording came either }
  where
    by : (r : Option Recording) → Came r es left → (f ≡ read.Device) ⊎ (f ≡ read.OutOfMemory)
        → IfSome r (λ r. (rest : Recording) × (r ≡ with_entries es rest) × Stops f rest)
    by None came e = tt
    by (Some r) (rest, is, all) (inl e) = (rest, all, subst (λ (g : ReadFault). Stops g rest) (sym e) tt)
    by (Some r) (rest, is, all) (inr e) = (rest, all, subst (λ (g : ReadFault). Stops g rest) (sym e) tt)
