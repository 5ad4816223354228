-- What the words of a piece say so far, and where it ends.
use Rattle.std.proofs.Common.{◌≡◌, ℕ, zero, suc, ◌<◌, ◌≤◌, ◌+◌, ◌⊎◌, Bool, true, false, cond, not, List, [], ◌∷◌, ◌++◌, length, take, reverse, Option, Some, None, slice_get, refl, sym, ap, ◌∙◌, subst, inl, inr, arith}
use Rattle.std.specs.Prelude.{IfSome, nat_le, nat_lt}
use Rattle.std.specs.List.{filter}
use Rattle.std.proofs.Math.Seq.{take-length}
use Rattle.std.proofs.lemmas.Bool.{cases_lt, le-ltb, leb-false, leb-true, lt-ltb}
use Rattle.std.proofs.lemmas.List.{append_assoc, append-nil, length-append, length-take, take-append-le, take-take}
use Rattle.std.proofs.lemmas.Grind.{reverse_onto}
use Rattle.std.proofs.lemmas.List.Elements.{filter-append}
use Rattle.a429_profile.specs.declared.codes.Codes.{Codes}
use Rattle.a429_profile.specs.Profile.{Contents}
use Rattle.a429_ldu.specs.declared.forms.Form.{Form}
use Rattle.a429_ldu.specs.Form.{form_of}
use Rattle.a429_link.specs.declared.file.FileBytes.{FileBytes}
use Rattle.a429_link.specs.declared.seen.Seen.{Seen}
use Rattle.a429_link.specs.Attempt.{asks}
use Rattle.a429_parts.specs.Cutting.{BeginsFile, next_start}
use Rattle.a429_sink.specs.declared.file_units.FileUnits.{FileUnits}
use Rattle.a429_sink.specs.declared.file_units.OpenUnits.{OpenUnits}
use Rattle.a429_sink.specs.declared.piece.PieceTrace.{PieceTrace}
use Rattle.a429_sink.specs.declared.piece.Settled.{Settled}
use Rattle.a429_sink.specs.declared.requests.Mark.{Mark}
use Rattle.a429_sink.specs.declared.requests.Requests.{Requests}
use Rattle.a429_sink.specs.declared.requests.Start.{Start}
use Rattle.a429_sink.specs.declared.requests.Start.TheVariants as start
use Rattle.a429_sink.specs.declared.stopping_trace.Stop.{Stop}
use Rattle.a429_sink.specs.declared.stopping_trace.StoppingTrace.{StoppingTrace}
use Rattle.a429_sink.specs.Anywhere.{unknown}
use Rattle.a429_sink.specs.FileUnits.{AreUnits, left_at, open_left, units_mark, with_newest}
use Rattle.a429_sink.specs.History.{BeginsFileAt, EndsAt, Before, After, IsLastPiece, IsStop, IsTold, MayEnd, StopsAt, Told, is_whole, open_units, units_after}
use Rattle.a429_sink.specs.Piece.{AreFilesOrdered, IsBeforeMark, IsFirstAfter, IsMark, IsPieceTrace, IsSettled, end_at_last, end_by, end_of, last_by, mark_of, settled_by, settled_of, stop_at, told_at, unless_in_doubt}
use Rattle.a429_sink.specs.Requests.{AreOrdered, AreRequests, IsAt, IsMarked, IsUpToMark, asked_by, is_before, later_doubt, later_place, no_requests, requests_after, settled, start_after}
use Rattle.a429_sink.specs.StoppingTrace.{GrowsBy, IsLater, IsStoppingTrace, place_in, sound_in, sure_in}
use Rattle.a429_sink.proofs.RequestFacts.{begun_before, may_end, no_requests_yet, requests_more}
use Rattle.a429_sink.proofs.StoppingFacts.{refused_inside, stops_on}

-- ---- units that are left

-- the newest is whole, or it is left
whole_or : (c : Codes) (u : FileUnits) (xs : List FileUnits) (whole : Bool)
    → is_whole c u ≡ whole → cond whole xs (xs ++ u ∷ []) ≡ xs ++ open_left c (u ∷ [])
whole_or c u xs true e = rw e (sym (append-nil xs))
whole_or c u xs false e = rw e refl

left_now : (c : Codes) (us : List FileUnits) (kept : OpenUnits) → AreUnits c us kept → left_at c (units_mark kept) kept ≡ open_left c us
left_now c [] kept (newest, earlier) = rw (newest, earlier) refl
left_now c (u ∷ us) kept (newest, earlier) =
    ap (λ (xs : List FileUnits). with_newest c xs kept.newest) (take-length kept.earlier.items ∙ earlier)
    ∙ ap (with_newest c (open_left c us)) newest ∙ whole_or c u (open_left c us) (is_whole c u) refl
    ∙ sym (filter-append (λ v. not (is_whole c v)) (reverse us) (u ∷ []))
    ∙ ap (filter (λ v. not (is_whole c v))) (sym (reverse_onto us u []))

-- ---- what is said of the words so far

stop_now : (items : List Seen) (p : Contents) (size : ℕ) (stop : Option Stop)
    → size ≡ length items → IsStop p items (place_in stop) → stop_at size stop ≡ stop
stop_now items p size None e h = refl
stop_now items p size (Some s) e h =
    let l = refused_inside p items s.place h.0 in ap (λ (b : Bool). cond b (Some s) None) (lt-ltb s.place size (omega (arith, e, l)))

all_taken : {A : Type 0} (n : ℕ) (l : List A) → n ≡ length l → take n l ≡ l
all_taken n l e = ap (λ (k : ℕ). take k l) e ∙ take-length l

pub mark_now : (p : Contents) (items : List Seen) (t : PieceTrace) → IsPieceTrace p items t → IsMark p items t.trace (mark_of t)
mark_now p items t is =
    let stop = stop_now items p t.trace.size t.trace.stop is.trace.size is.trace.stops in
    let words = all_taken t.trace.size items is.trace.size in
    let begun = begun_before p items t.requests.first is.requests.first in
    let units : left_at p.codes (units_mark t.trace.trace.units) t.trace.trace.units ≡ open_units p (sound_in items t.trace) =
    left_now p.codes (units_after p unknown [] (sound_in items t.trace)) t.trace.trace.units is.trace.trace.units in
    let now : IsTold p items (record {
      begun_before = is_before t.requests.first;
      stop = place_in t.trace.stop;
      files = sure_in p items t.trace;
      units = left_at p.codes (units_mark t.trace.trace.units) t.trace.trace.units;
    }) =
    record { begun = begun; stops = is.trace.stops; sure = refl; others = units } in
    record {
      place = omega arith;
      files = omega arith;
      units = omega arith;
      told = subst (λ (l : List Seen). IsTold p l (told_at p.codes t.trace (sure_in p items t.trace) (mark_of t))) (sym words)
          (subst (λ (fs : List FileBytes). IsTold p items (record {
            begun_before = is_before t.requests.first;
            stop = place_in (stop_at t.trace.size t.trace.stop);
            files = fs;
            units = left_at p.codes (units_mark t.trace.trace.units) t.trace.trace.units;
          }))
          (sym (all_taken t.trace.files (sure_in p items t.trace) is.trace.files))
          (subst (λ (s : Option Stop). IsTold p items (record {
            begun_before = is_before t.requests.first;
            stop = place_in s;
            files = sure_in p items t.trace;
            units = left_at p.codes (units_mark t.trace.trace.units) t.trace.trace.units;
          })) (sym stop) now));
      word =
          subst (λ (o : Option Stop). IfSome o (λ s. slice_get (take t.trace.size items) s.place ≡ Some s.seen)) (sym stop)
          (subst (λ (l : List Seen). IfSome t.trace.stop (λ s. slice_get l s.place ≡ Some s.seen)) (sym words) is.trace.word);
    }

-- ---- and after one more

same_stop : (n : ℕ) (old new : StoppingTrace) → n ≤ old.size → IsLater old new → stop_at n new.stop ≡ stop_at n old.stop
same_stop n old new l later = by later.stop
  where
    fresh : (s : Option Stop) → IfSome s (λ s. s.place ≡ old.size) → stop_at n s ≡ None
    fresh None h = refl
    fresh (Some s) h = ap (λ (b : Bool). cond b (Some s) None) (le-ltb s.place n (omega (arith, l, h)))

    by : (new.stop ≡ old.stop) ⊎ ((old.stop ≡ None) × IfSome new.stop (λ s. s.place ≡ old.size)) → stop_at n new.stop ≡ stop_at n old.stop
    by (inl e) = ap (stop_at n) e
    by (inr (none, h)) = fresh new.stop h ∙ sym (ap (stop_at n) none)

taken_first : {A : Type 0} (old new : List A) (n : ℕ) → take (length old) new ≡ old → n ≤ length old → take n new ≡ take n old
taken_first old new n e l = sym (take-take n (length old) new l) ∙ ap (take n) e

no_shorter : {A : Type 0} (old new : List A) → take (length old) new ≡ old → length old ≤ length new
no_shorter old new e = omega (arith, length-take (length old) new, ap length e)

module _ (p : Contents) (items : List Seen) (i : Seen) (old new : StoppingTrace) (files : List FileBytes)
    (was : IsStoppingTrace p items old) (is : IsStoppingTrace p (items ++ i ∷ []) new) (later : IsLater old new)
    (grows : GrowsBy p items i old new files) where
  pub mark_more : (m : Mark) → IsMark p items old m → IsMark p (items ++ i ∷ []) new m
  mark_more m h =
      let count : length (sure_in p (items ++ i ∷ []) new) ≡ length (sure_in p items old) + length files =
      ap length grows ∙ length-append (sure_in p items old) files in
      let same_files : take m.files (sure_in p (items ++ i ∷ []) new) ≡ take m.files (sure_in p items old) =
      ap (take m.files) grows ∙ take-append-le m.files (sure_in p items old) files (omega (arith, h.files, was.files)) in
      let same_words : take m.place (items ++ i ∷ []) ≡ take m.place items =
      take-append-le m.place items (i ∷ []) (omega (arith, h.place, was.size)) in
      let same_units : left_at p.codes m.units new.trace.units ≡ left_at p.codes m.units old.trace.units =
      ap (λ (xs : List FileUnits). with_newest p.codes xs m.units.newest)
      (taken_first old.trace.units.earlier.items new.trace.units.earlier.items m.units.earlier later.units h.units) in
      let more = no_shorter old.trace.units.earlier.items new.trace.units.earlier.items later.units in
      let same : told_at p.codes new (sure_in p (items ++ i ∷ []) new) m ≡ told_at p.codes old (sure_in p items old) m =
      ap (λ (s : Option Stop). record {
        begun_before = m.begun_before;
        stop = place_in s;
        files = take m.files (sure_in p (items ++ i ∷ []) new);
        units = left_at p.codes m.units new.trace.units;
      }) (same_stop m.place old new h.place later)
      ∙ ap (λ (fs : List FileBytes). record {
        begun_before = m.begun_before;
        stop = place_in (stop_at m.place old.stop);
        files = fs;
        units = left_at p.codes m.units new.trace.units;
      }) same_files
      ∙ ap (λ (us : List FileUnits). record {
        begun_before = m.begun_before;
        stop = place_in (stop_at m.place old.stop);
        files = take m.files (sure_in p items old);
        units = us;
      }) same_units in
      record {
        place = omega (arith, h.place, later.size);
        files = omega (arith, h.files, was.files, is.files, count);
        units = omega (arith, h.units, more);
        told =
            subst (λ (t : Told). IsTold p (take m.place (items ++ i ∷ [])) t) (sym same)
            (subst (λ (l : List Seen). IsTold p l (told_at p.codes old (sure_in p items old) m)) (sym same_words) h.told);
        word = subst (λ (l : List Seen). IfSome (stop_at m.place new.stop) (λ s. slice_get l s.place ≡ Some s.seen)) (sym same_words)
            (subst (λ (o : Option Stop). IfSome o (λ s. slice_get (take m.place items) s.place ≡ Some s.seen))
            (sym (same_stop m.place old new h.place later)) h.word);
      }

  marks_more : (m : Option Mark) → IfSome m (IsMark p items old) → IfSome m (IsMark p (items ++ i ∷ []) new)
  marks_more None h = tt
  marks_more (Some m) h = mark_more m h

  later_placed : (s : Start) (doubt place : Option Mark) → IfSome doubt (IsMark p items old) → IfSome place (IsMark p items old)
      → IfSome (later_place s doubt place) (IsMark p (items ++ i ∷ []) new)
  later_placed start.Open doubt place hd hp = marks_more place hp
  later_placed start.Other doubt place hd hp = marks_more place hp
  later_placed start.OfFile None place hd hp = marks_more place hp
  later_placed start.OfFile (Some d) place hd hp = mark_more d hd

  files_ordered : (s : Start) (doubt place : Option Mark)
      → AreFilesOrdered place doubt → AreFilesOrdered (later_place s doubt place) (later_doubt s doubt)
  files_ordered start.Open doubt place h = h
  files_ordered start.Other doubt None h = tt
  files_ordered start.Other doubt (Some m) h = tt
  files_ordered start.OfFile None None h = tt
  files_ordered start.OfFile None (Some m) h = tt
  files_ordered start.OfFile (Some d) place h = tt

  later_doubted : (s : Start) (doubt : Option Mark)
      → IfSome doubt (IsMark p items old) → IfSome (later_doubt s doubt) (IsMark p (items ++ i ∷ []) new)
  later_doubted start.Open doubt hd = marks_more doubt hd
  later_doubted start.OfFile doubt hd = tt
  later_doubted start.Other doubt hd = tt

  -- a place stays the first one
  stays_first : (s : Option Stop) (m : Option Mark) → IsFirstAfter p items s m → IsFirstAfter p (items ++ i ∷ []) s m
  stays_first None m h = tt
  stays_first (Some s) None h = tt
  stays_first (Some s) (Some m) (inl l) = inl l
  stays_first (Some s) (Some m) (inr none) =
      inr (λ rest n l h. none (i ∷ rest) n l (subst (λ (k : List Seen). MayEnd p k n) (append_assoc items (i ∷ []) rest) h))

  -- a piece that stops with this word stops after each place
  stops_later : (s : Option Stop) (m : Option Mark)
      → IfSome s (λ s. s.place ≡ old.size) → IfSome m (IsMark p items old) → IsFirstAfter p (items ++ i ∷ []) s m
  stops_later None m e h = tt
  stops_later (Some s) None e h = tt
  stops_later (Some s) (Some m) e h = inl (omega (arith, e, h.place))

  placed_before : (s : Start) (doubt place : Option Mark)
      → IfSome doubt (IsMark p items old) → IfSome place (IsMark p items old) → IfSome (later_place s doubt place) (IsMark p items old)
  placed_before start.Open doubt place hd hp = hp
  placed_before start.Other doubt place hd hp = hp
  placed_before start.OfFile None place hd hp = hp
  placed_before start.OfFile (Some d) place hd hp = hd

  -- the one in doubt, where there was no place, or it was waited for
  settled_first : (s : Option Stop) (place : Option Mark) (d : Mark) → d.place ≤ old.size → end_by s place (Some d) ≡ None
      → ((rest : List Seen) (m : ℕ) → m < length items → MayEnd p (items ++ rest) m
      → IsUpToMark m place ⊎ (IsAt m (Some d) × BeginsFile p.codes (next_start p.codes rest)))
      → IsFirstAfter p (items ++ i ∷ []) s (Some d)
  settled_first None place d l e others = tt
  settled_first (Some s) None d l e others =
      inr (λ rest n less h. by n less (others (i ∷ rest) n (omega (arith, less, l, was.size))
      (subst (λ (k : List Seen). MayEnd p k n) (append_assoc items (i ∷ []) rest) h)))
    where
      by : {B : Type 0} (n : ℕ) → n < d.place → ⊥ ⊎ ((n ≡ d.place) × B) → ⊥
      by n less (inl h) = h
      by n less (inr h) = omega (arith, less, h.0)
  settled_first (Some s) (Some m) d l e others = by (nat_le d.place s.place) refl e
    where
      by : (b : Bool) → nat_le d.place s.place ≡ b → cond b None (Some m) ≡ None → IsFirstAfter p (items ++ i ∷ []) (Some s) (Some d)
      by true is_b e = inl (leb-true d.place s.place is_b)
      by false is_b e = absurd (cc e)

  early_on : (s : Start) (doubt place : Option Mark)
      → IfSome doubt (IsMark p items old) → end_by old.stop place doubt ≡ None → IsFirstAfter p items old.stop place
      → ((rest : List Seen) (m : ℕ) → m < length items → MayEnd p (items ++ rest) m
      → IsUpToMark m place ⊎ (IsAt m doubt × BeginsFile p.codes (next_start p.codes rest)))
      → IsFirstAfter p (items ++ i ∷ []) old.stop (later_place s doubt place)
  early_on start.Open doubt place hd e h others = stays_first old.stop place h
  early_on start.Other doubt place hd e h others = stays_first old.stop place h
  early_on start.OfFile None place hd e h others = stays_first old.stop place h
  early_on start.OfFile (Some d) place hd e h others = settled_first old.stop place d hd.place e others

  early_by : (s : Start) (doubt place : Option Mark) → IfSome doubt (IsMark p items old) → IfSome place (IsMark p items old)
      → end_by old.stop place doubt ≡ None → IsFirstAfter p items old.stop place
      → ((rest : List Seen) (m : ℕ) → m < length items → MayEnd p (items ++ rest) m
      → IsUpToMark m place ⊎ (IsAt m doubt × BeginsFile p.codes (next_start p.codes rest)))
      → IsFirstAfter p (items ++ i ∷ []) new.stop (later_place s doubt place)
  early_by s doubt place hd hp e h others = by later.stop
    where
      by : (new.stop ≡ old.stop) ⊎ ((old.stop ≡ None) × IfSome new.stop (λ s. s.place ≡ old.size))
          → IsFirstAfter p (items ++ i ∷ []) new.stop (later_place s doubt place)
      by (inl same) =
          subst (λ (k : Option Stop). IsFirstAfter p (items ++ i ∷ []) k (later_place s doubt place)) (sym same)
          (early_on s doubt place hd e h others)
      by (inr (none, fresh)) = stops_later new.stop (later_place s doubt place) fresh (placed_before s doubt place hd hp)

pub piece_more : (p : Contents) (items : List Seen) (i : Seen) (old : PieceTrace) (new : StoppingTrace) (files : List FileBytes)
    → IsPieceTrace p items old → end_of old ≡ None
    → IsStoppingTrace p (items ++ i ∷ []) new → IsLater old.trace new → GrowsBy p items i old.trace new files
    → IsPieceTrace p (items ++ i ∷ [])
    (record { trace = new; requests = requests_after p.codes i.bus (form_of p.codes i.bus i.word) (mark_of old) old.requests })
piece_more p items i old new files was e is later grows =
    by (asks i.bus (form_of p.codes i.bus i.word)) (requests_more p items i old.requests was.requests (mark_of old) was.trace.size)
  where
    mark : IsMark p (items ++ i ∷ []) new (mark_of old)
    mark = mark_more p items i old.trace new files was.trace is later grows (mark_of old) (mark_now p items old was)

    place : IfSome (later_place (start_after p.codes (form_of p.codes i.bus i.word) start.Open) old.requests.doubt old.requests.place)
        (IsMark p (items ++ i ∷ []) new)
    place =
        later_placed p items i old.trace new files was.trace is later grows
        (start_after p.codes (form_of p.codes i.bus i.word) start.Open) old.requests.doubt old.requests.place was.doubt was.place

    doubt : IfSome (later_doubt (start_after p.codes (form_of p.codes i.bus i.word) start.Open) old.requests.doubt)
        (IsMark p (items ++ i ∷ []) new)
    doubt =
        later_doubted p items i old.trace new files was.trace is later grows
        (start_after p.codes (form_of p.codes i.bus i.word) start.Open) old.requests.doubt was.doubt

    before : IfSome (later_place (start_after p.codes (form_of p.codes i.bus i.word) start.Open) old.requests.doubt old.requests.place)
        (IsMark p items old.trace)
    before =
        placed_before p items i old.trace new files was.trace is later grows
        (start_after p.codes (form_of p.codes i.bus i.word) start.Open) old.requests.doubt old.requests.place was.doubt was.place

    order : AreFilesOrdered
        (later_place (start_after p.codes (form_of p.codes i.bus i.word) start.Open) old.requests.doubt old.requests.place)
        (later_doubt (start_after p.codes (form_of p.codes i.bus i.word) start.Open) old.requests.doubt)
    order =
        files_ordered p items i old.trace new files was.trace is later grows
        (start_after p.codes (form_of p.codes i.bus i.word) start.Open) old.requests.doubt old.requests.place was.order

    last_ordered : (place : Option Mark) → IfSome place (IsMark p items old.trace) → AreFilesOrdered place (Some (mark_of old))
    last_ordered None h = tt
    last_ordered (Some m) h = h.files

    either_ordered : (b : Bool) (d : Option Mark)
        → AreFilesOrdered
        (later_place (start_after p.codes (form_of p.codes i.bus i.word) start.Open) old.requests.doubt old.requests.place) d
        → AreFilesOrdered
        (later_place (start_after p.codes (form_of p.codes i.bus i.word) start.Open) old.requests.doubt old.requests.place)
        (cond b (Some (mark_of old)) d)
    either_ordered true d h =
        last_ordered (later_place (start_after p.codes (form_of p.codes i.bus i.word) start.Open) old.requests.doubt old.requests.place)
        before
    either_ordered false d h = h

    early : IsFirstAfter p (items ++ i ∷ []) new.stop
        (later_place (start_after p.codes (form_of p.codes i.bus i.word) start.Open) old.requests.doubt old.requests.place)
    early =
        early_by p items i old.trace new files was.trace is later grows (start_after p.codes (form_of p.codes i.bus i.word) start.Open)
        old.requests.doubt old.requests.place was.doubt was.place e was.early was.requests.others

    either : (b : Bool) (d : Option Mark)
        → IfSome d (IsMark p (items ++ i ∷ []) new) → IfSome (cond b (Some (mark_of old)) d) (IsMark p (items ++ i ∷ []) new)
    either true d h = mark
    either false d h = h

    by : (n : Option ℕ)
        → AreRequests p (items ++ i ∷ []) (asked_by n (mark_of old) (settled p.codes (form_of p.codes i.bus i.word) old.requests))
        → IsPieceTrace p (items ++ i ∷ [])
        (record { trace = new; requests = asked_by n (mark_of old) (settled p.codes (form_of p.codes i.bus i.word) old.requests) })
    by None requests = record { trace = is; requests = requests; place = place; doubt = doubt; order = order; early = early }
    by (Some n) requests = record {
      trace = is;
      requests = requests;
      place = place;
      doubt =
          either (nat_lt 0 old.trace.size)
          (later_doubt (start_after p.codes (form_of p.codes i.bus i.word) start.Open) old.requests.doubt) doubt;
      order =
          either_ordered (nat_lt 0 old.trace.size)
          (later_doubt (start_after p.codes (form_of p.codes i.bus i.word) start.Open) old.requests.doubt) order;
      early = early;
    }

pub piece_at_first : (p : Contents) (t : PieceTrace) → IsStoppingTrace p [] t.trace → t.requests ≡ no_requests → IsPieceTrace p [] t
piece_at_first p t trace e = record {
  trace = trace;
  requests = subst (AreRequests p []) (sym e) (no_requests_yet p);
  place = subst (λ (r : Requests). IfSome r.place (IsMark p [] t.trace)) (sym e) tt;
  doubt = subst (λ (r : Requests). IfSome r.doubt (IsMark p [] t.trace)) (sym e) tt;
  order = subst (λ (r : Requests). AreFilesOrdered r.place r.doubt) (sym e) tt;
  early = subst (λ (r : Requests). IsFirstAfter p [] t.trace.stop r.place) (sym e) (none t.trace.stop);
}
  where
    none : (s : Option Stop) → IsFirstAfter p [] s None
    none None = tt
    none (Some s) = tt

-- ---- where it ends

-- a file begins only where there is a word
pub may_inside : (p : Contents) (l : List Seen) (n : ℕ) → BeginsFileAt p l n → n < length l
may_inside p [] n h = absurd h
may_inside p (y ∷ l) zero h = omega arith
may_inside p (y ∷ l) (suc n) h = let k = may_inside p l n h in omega (arith, k)

module _ (p : Contents) (items : List Seen) (t : PieceTrace) (is : IsPieceTrace p items t) where
  ends_with : (s : Stop) → t.trace.stop ≡ Some s → (m : Mark) → t.requests.place ≡ Some m → (rest : List Seen)
      → ((n : ℕ) → n ≤ s.place → IsAt n t.requests.doubt × BeginsFile p.codes (next_start p.codes rest) → ⊥)
      → EndsAt p (items ++ rest) m.place
  ends_with s stop m place rest none =
      by (subst (λ (q : Option Mark). IsFirstAfter p items (Some s) q) place
      (subst (λ (q : Option Stop). IsFirstAfter p items q t.requests.place) stop is.early))
    where
      stops : StopsAt p items s.place
      stops = subst (λ (q : Option Stop). IsStop p items (place_in q)) stop is.trace.stops

      may : MayEnd p (items ++ rest) m.place
      may = may_end p items rest m (subst (λ (q : Option Mark). IfSome q (IsMarked p items start.OfFile)) place is.requests.place)

      last : (n : ℕ) → m.place < n → n ≤ s.place → MayEnd p (items ++ rest) n → ⊥
      last n after l h =
          off (subst (λ (q : Option Mark). IsUpToMark n q ⊎ (IsAt n t.requests.doubt × BeginsFile p.codes (next_start p.codes rest))) place
          (is.requests.others rest n (let inside = refused_inside p items s.place stops.0 in omega (arith, inside, l)) h))
        where
          off : (n ≤ m.place) ⊎ (IsAt n t.requests.doubt × BeginsFile p.codes (next_start p.codes rest)) → ⊥
          off (inl k) = omega (arith, after, k)
          off (inr b) = none n l b

      by : (m.place ≤ s.place) ⊎ ((rest : List Seen) (n : ℕ) → n < m.place → MayEnd p (items ++ rest) n → ⊥)
          → EndsAt p (items ++ rest) m.place
      by (inl l) = Before s.place (stops_on p items rest s.place stops) may l last
      by (inr first) = off (cases_lt s.place m.place)
        where
          off : (s.place < m.place) ⊎ (m.place ≤ s.place) → EndsAt p (items ++ rest) m.place
          off (inl l) = After s.place (stops_on p items rest s.place stops) may l (first rest)
          off (inr l) = Before s.place (stops_on p items rest s.place stops) may l last

  -- what is said of it then
  told_by : (m : Mark) → t.requests.place ≡ Some m → IsMark p items t.trace m
  told_by m place = subst (λ (q : Option Mark). IfSome q (IsMark p items t.trace)) place is.place

  pub ends_at : (m : Mark)
      → end_of t ≡ Some m → IsMark p items t.trace m × (0 < m.place) × ((rest : List Seen) → EndsAt p (items ++ rest) m.place)
  ends_at m e = by t.trace.stop refl t.requests.place refl e
    where
      some : (m : Mark) → t.requests.place ≡ Some m → 0 < m.place
      some m place = (subst (λ (q : Option Mark). IfSome q (IsMarked p items start.OfFile)) place is.requests.place).1

      beyond : (s : Stop) → t.trace.stop ≡ Some s → (k : Mark) → t.requests.place ≡ Some k → (doubt : Option Mark)
          → t.requests.doubt ≡ doubt → unless_in_doubt s doubt k ≡ Some m
          → IsMark p items t.trace m × (0 < m.place) × ((rest : List Seen) → EndsAt p (items ++ rest) m.place)
      beyond s stop k place None none e =
          let same : t.requests.place ≡ Some m = place ∙ e in
          (told_by m same, some m same, λ rest. ends_with s stop m same rest (λ n l b. subst (IsAt n) none b.0))
      beyond s stop k place (Some d) in_doubt e = off (nat_le d.place s.place) refl e
        where
          off : (b : Bool) → nat_le d.place s.place ≡ b → cond b None (Some k) ≡ Some m
              → IsMark p items t.trace m × (0 < m.place) × ((rest : List Seen) → EndsAt p (items ++ rest) m.place)
          off true is_b e = absurd (cc e)
          off false is_b e =
              let same : t.requests.place ≡ Some m = place ∙ e in
              let late = leb-false d.place s.place is_b in (
                told_by m same,
                some m same,
                λ rest. ends_with s stop m same rest
                    (λ n l b. let at : n ≡ d.place = subst (IsAt n) in_doubt b.0 in omega (arith, l, late, at)),
              )

      by : (stop : Option Stop)
          → t.trace.stop ≡ stop → (place : Option Mark) → t.requests.place ≡ place → end_by stop place t.requests.doubt ≡ Some m
          → IsMark p items t.trace m × (0 < m.place) × ((rest : List Seen) → EndsAt p (items ++ rest) m.place)
      by None stop place is_place e = absurd (cc e)
      by (Some s) stop None is_place e = absurd (cc e)
      by (Some s) stop (Some k) is_place e = beyond s stop k is_place t.requests.doubt refl e

  -- where no more words come
  pub ends_at_last : (m : Mark) → end_at_last t ≡ Some m → IsMark p items t.trace m × (0 < m.place) × EndsAt p items m.place
  ends_at_last m e = by t.trace.stop refl e
    where
      by : (stop : Option Stop)
          → t.trace.stop ≡ stop → last_by stop t.requests.place ≡ Some m → IsMark p items t.trace m × (0 < m.place) × EndsAt p items m.place
      by None stop e = absurd (cc e)
      by (Some s) stop e = (
        told_by m e,
        (subst (λ (q : Option Mark). IfSome q (IsMarked p items start.OfFile)) e is.requests.place).1,
        subst (λ (l : List Seen). EndsAt p l m.place) (append-nil items) (ends_with s stop m e [] (λ n l b. b.1)),
      )

  pub is_last : end_at_last t ≡ None → IsLastPiece p items
  is_last e = by t.trace.stop refl e
    where
      none : t.requests.place ≡ None → (m : ℕ) → MayEnd p items m → ⊥
      none e m h =
          off (subst (λ (q : Option Mark). IsUpToMark m q ⊎ (IsAt m t.requests.doubt × BeginsFile p.codes (next_start p.codes []))) e
          (is.requests.others [] m (may_inside p items m h.1) (subst (λ (l : List Seen). MayEnd p l m) (sym (append-nil items)) h)))
        where
          off : ⊥ ⊎ (IsAt m t.requests.doubt × BeginsFile p.codes (next_start p.codes [])) → ⊥
          off (inl h) = h
          off (inr b) = b.1

      by : (stop : Option Stop) → t.trace.stop ≡ stop → last_by stop t.requests.place ≡ None → IsLastPiece p items
      by None stop e = inl (subst (λ (q : Option Stop). IsStop p items (place_in q)) stop is.trace.stops)
      by (Some s) stop e = inr (none e)

-- ---- what belongs to it, whatever words come

settled_mark : (s : Settled) (m n : Option Mark) (k : Start)
    → IfSome m (IsBeforeMark s) → IfSome n (IsBeforeMark s) → IfSome (later_place k m n) (IsBeforeMark s)
settled_mark s m n start.Open hm hn = hn
settled_mark s m n start.Other hm hn = hn
settled_mark s None n start.OfFile hm hn = hn
settled_mark s (Some m) n start.OfFile hm hn = hm

settled_doubt : (s : Settled) (m : Option Mark) (k : Start) → IfSome m (IsBeforeMark s) → IfSome (later_doubt k m) (IsBeforeMark s)
settled_doubt s m start.Open hm = hm
settled_doubt s m start.OfFile hm = tt
settled_doubt s m start.Other hm = tt

pub settled_more : (c : Codes) (i : Seen) (x : Option Form) (old : PieceTrace) (new : StoppingTrace) (s : Settled)
    → IsLater old.trace new → IsSettled s old
    → IsSettled s (record { trace = new; requests = requests_after c i.bus x (mark_of old) old.requests })
settled_more c i x old new s later h = by (asks i.bus x)
  where
    entries : s.entries ≤ new.size
    entries = omega (arith, h.entries, later.size)

    files : s.files ≤ new.files
    files = omega (arith, h.files, later.files)

    place : IfSome (later_place (start_after c x start.Open) old.requests.doubt old.requests.place) (IsBeforeMark s)
    place = settled_mark s old.requests.doubt old.requests.place (start_after c x start.Open) h.doubt h.place

    doubt : IfSome (later_doubt (start_after c x start.Open) old.requests.doubt) (IsBeforeMark s)
    doubt = settled_doubt s old.requests.doubt (start_after c x start.Open) h.doubt

    either : (b : Bool) (d : Option Mark) → IfSome d (IsBeforeMark s) → IfSome (cond b (Some (mark_of old)) d) (IsBeforeMark s)
    either true d k = (h.entries, h.files)
    either false d k = k

    by : (n : Option ℕ) → IsSettled s (record { trace = new; requests = asked_by n (mark_of old) (settled c x old.requests) })
    by None = record { entries = entries; files = files; place = place; doubt = doubt }
    by (Some n) = record {
      entries = entries;
      files = files;
      place = place;
      doubt = either (nat_lt 0 old.trace.size) (later_doubt (start_after c x start.Open) old.requests.doubt) doubt;
    }

-- what is settled belongs to it
pub settled_is : (p : Contents) (items : List Seen) (t : PieceTrace) → IsPieceTrace p items t → IsSettled (settled_of t) t
settled_is p items t is = by t.requests.place refl t.requests.doubt refl is.requests.order is.order is.place is.doubt
  where
    by : (place : Option Mark) → t.requests.place ≡ place → (doubt : Option Mark) → t.requests.doubt ≡ doubt → AreOrdered place doubt
        → AreFilesOrdered place doubt → IfSome place (IsMark p items t.trace) → IfSome doubt (IsMark p items t.trace)
        → IsSettled (settled_by place doubt (record { entries = t.trace.size; files = t.trace.files })) t
    by None is_place None is_doubt order files hp hd = record {
      entries = omega arith;
      files = omega arith;
      place =
          subst (λ (m : Option Mark). IfSome m (IsBeforeMark (record { entries = t.trace.size; files = t.trace.files }))) (sym is_place) tt;
      doubt =
          subst (λ (m : Option Mark). IfSome m (IsBeforeMark (record { entries = t.trace.size; files = t.trace.files }))) (sym is_doubt) tt;
    }
    by None is_place (Some d) is_doubt order files hp hd = record {
      entries = hd.place;
      files = hd.files;
      place = subst (λ (m : Option Mark). IfSome m (IsBeforeMark (record { entries = d.place; files = d.files }))) (sym is_place) tt;
      doubt =
          subst (λ (m : Option Mark). IfSome m (IsBeforeMark (record { entries = d.place; files = d.files }))) (sym is_doubt)
          (omega arith, omega arith);
    }
    by (Some m) is_place None is_doubt order files hp hd = record {
      entries = hp.place;
      files = hp.files;
      place =
          subst (λ (k : Option Mark). IfSome k (IsBeforeMark (record { entries = m.place; files = m.files }))) (sym is_place)
          (omega arith, omega arith);
      doubt = subst (λ (k : Option Mark). IfSome k (IsBeforeMark (record { entries = m.place; files = m.files }))) (sym is_doubt) tt;
    }
    by (Some m) is_place (Some d) is_doubt order files hp hd = record {
      entries = hp.place;
      files = hp.files;
      place =
          subst (λ (k : Option Mark). IfSome k (IsBeforeMark (record { entries = m.place; files = m.files }))) (sym is_place)
          (omega arith, omega arith);
      doubt =
          subst (λ (k : Option Mark). IfSome k (IsBeforeMark (record { entries = m.place; files = m.files }))) (sym is_doubt)
          (order, files);
    }

-- and nothing that is settled stops being so
pub settled_past : (s : Settled) (t : PieceTrace) → IsSettled s t → (s.entries ≤ (settled_of t).entries) × (s.files ≤ (settled_of t).files)
settled_past s t h = by t.requests.place t.requests.doubt h.place h.doubt
  where
    by : (place doubt : Option Mark) → IfSome place (IsBeforeMark s) → IfSome doubt (IsBeforeMark s)
        → (s.entries ≤ (settled_by place doubt (record { entries = t.trace.size; files = t.trace.files })).entries)
        × (s.files ≤ (settled_by place doubt (record { entries = t.trace.size; files = t.trace.files })).files)
    by (Some m) doubt hp hd = hp
    by None (Some d) hp hd = hd
    by None None hp hd = (h.entries, h.files)
