-- Parts, one more.
use Rattle.std.proofs.Common.{◌≡◌, Bool, true, false, ◌+◌, ◌<◌, ◌≤◌, ◌⊎◌, ℕ, suc, List, [], ◌∷◌, ◌++◌, length, take, drop, Option, Some, None, Result, Ok, Err, append_assoc, append-nil, length-append, refl, sym, ap, ◌∙◌, subst, arith, inl, inr}
use Rattle.std.specs.Prelude.{IfOk, IfSome}
use Rattle.std.proofs.lemmas.List.{length-take-le, take-append-drop}
use Rattle.a429_word.specs.declared.sheet.Sheet.{Sheet}
use Rattle.a429_word.specs.Sheet.{Says}
use Rattle.a429_word.proofs.SheetFacts.{◌▹◌, says_nothing}
use Rattle.a429_profile.specs.Profile.{Contents}
use Rattle.a429_record.specs.declared.entry.Entry.{Entry}
use Rattle.a429_record.specs.declared.fault.ReadFault.{ReadFault}
use Rattle.a429_record.specs.declared.fault.ReadFault.TheVariants as read
use Rattle.a429_record.specs.Recording.{Recording}
use Rattle.a429_record.specs.Rows.{GivesNext, Stops}
use Rattle.a429_link.specs.declared.seen.Seen.{Seen}
use Rattle.a429_link.specs.Observer.{at_first}
use Rattle.a429_cert.specs.Explained.{items_of}
use Rattle.a429_parts.specs.Cutting.{Follows, IsPlace}
use Rattle.a429_parts.specs.Cutter.{CutterState, Cuts, EndsLast, CutsAlways, EndsNowhere, HasNoNextPart, HasNoNextPartAtEnd, IsCurrent, IsFoundInTime, IsInReach, IsNextPart, IsNextPartAtEnd, IsPart}
use Rattle.a429_parts.specs.Near.{HasNoneNear, IsLastNear}
use Rattle.a429_parts.specs.Watch.{FindsAll}
use Rattle.a429_parts.specs.Parts.{AreFirstParts, EndAtPlaces, GainsPart, GainsParts, HaveAtMost, IsSame, NumberedPart, PutParts, joined, list_text, numbered, part_line, part_lines, with_parts}
use Rattle.a429_parts.specs.declared.parting.Parting.{Parting}
use Rattle.a429_parts.specs.Keeping.{Taken, with_entries}
use Rattle.a429_parts.specs.Parting.{ArePut, CannotGoOn, CutsAll, CutsUntil, EndsFor, EndsNowhereFor, Finished, Holds, IsLeft, Outputs, Progress, Stopped, outputs}
use Rattle.a429_parts.proofs.KeepingFacts.{Came, came_whole}

-- ---- lists of parts

joined-push : (parts : List (List Entry)) (es : List Entry) → joined (parts ++ es ∷ []) ≡ joined parts ++ es
joined-push [] es = append-nil es
joined-push (x ∷ parts) es = ap (λ (l : List Entry). x ++ l) (joined-push parts es) ∙ sym (append_assoc x (joined parts) es)

numbered-push : (k : ℕ) (parts : List (List Entry)) (es : List Entry)
    → numbered k (parts ++ es ∷ []) ≡ numbered k parts ++ record { number = k + length parts; entries = es } ∷ []
numbered-push k [] es = ap (λ (n : ℕ). record { number = n; entries = es } ∷ []) (omega arith)
numbered-push k (x ∷ parts) es =
    ap (λ (l : List NumberedPart). record { number = k; entries = x } ∷ l)
    (numbered-push (suc k) parts es ∙ ap (λ (n : ℕ). numbered (suc k) parts ++ record { number = n; entries = es } ∷ []) (omega arith))

line_same : {a b c x y z : ℕ} → a ≡ x → b ≡ y → c ≡ z → part_line a b c ≡ part_line x y z
line_same {a} {b} {c} {x} {y} {z} e1 e2 e3 =
    ap (λ (n : ℕ). part_line n b c) e1 ∙ (ap (λ (n : ℕ). part_line x n c) e2 ∙ ap (λ (n : ℕ). part_line x y n) e3)

lines-push : (k from : ℕ) (parts : List (List Entry)) (es : List Entry)
    → part_lines k from (parts ++ es ∷ []) ≡ part_lines k from parts
    ++ part_line (k + length parts) (length es) (from + length (joined parts))
lines-push k from [] es = append-nil (part_line k (length es) from) ∙ line_same (omega arith) refl (omega arith)
lines-push k from (x ∷ parts) es =
    ap (λ (l : List ℕ). part_line k (length x) from ++ l)
    (lines-push (suc k) (from + length x) parts es ∙ ap (λ (l : List ℕ). part_lines (suc k) (from + length x) parts ++ l) last)
    ∙ sym (append_assoc (part_line k (length x) from) (part_lines (suc k) (from + length x) parts)
    (part_line (k + length (x ∷ parts)) (length es) (from + length (joined (x ∷ parts)))))
  where
    last : part_line (suc k + length parts) (length es) ((from + length x) + length (joined parts))
        ≡ part_line (k + length (x ∷ parts)) (length es) (from + length (joined (x ∷ parts)))
    last = line_same (omega arith) refl (omega (arith, length-append x (joined parts)))

last_near : (p : Contents) {most most' from from' end end' : ℕ} {entries entries' : List Entry} → most ≡ most' → entries ≡ entries'
    → from ≡ from' → end ≡ end' → IsLastNear p most entries from end → IsLastNear p most' entries' from' end'
last_near p {most} {most'} {from} {from'} {end} {end'} {entries} {entries'} e1 e2 e3 e4 h =
    subst (λ (n : ℕ). IsLastNear p n entries' from' end') e1
    (subst (λ (l : List Entry). IsLastNear p most l from' end') e2
    (subst (λ (n : ℕ). IsLastNear p most entries n end') e3 (subst (λ (n : ℕ). IsLastNear p most entries from n) e4 h)))

none_near : (p : Contents) {most most' from from' : ℕ} {entries entries' : List Entry}
    → most ≡ most' → entries ≡ entries' → from ≡ from' → HasNoneNear p most entries from → HasNoneNear p most' entries' from'
none_near p {most} {most'} {from} {from'} {entries} {entries'} e1 e2 e3 h =
    subst (λ (n : ℕ). HasNoneNear p n entries' from') e1
    (subst (λ (l : List Entry). HasNoneNear p most l from') e2 (subst (λ (n : ℕ). HasNoneNear p most entries n) e3 h))

places-push : (p : Contents) (most : ℕ) (entries : List Entry) (from : ℕ) (parts : List (List Entry)) (es : List Entry)
    → EndAtPlaces p most entries from parts → from + length (joined parts) + most < length entries
    → IsPlace p (items_of entries) (from + (length (joined parts) + length es))
    → IsLastNear p most entries (from + length (joined parts)) (from + (length (joined parts) + length es))
    → EndAtPlaces p most entries from (parts ++ es ∷ [])
places-push p most entries from [] es h long place last = (
  omega (arith, long),
  subst (IsPlace p (items_of entries)) (omega arith) place,
  last_near p refl refl (omega arith) (omega arith) last,
  tt,
)
places-push p most entries from (x ∷ parts) es (all, first, near, h) long place last = (
  all,
  first,
  near,
  places-push p most entries (from + length x) parts es h (omega (arith, long, length-append x (joined parts)))
      (subst (IsPlace p (items_of entries)) (omega (arith, length-append x (joined parts))) place)
      (last_near p refl refl (omega (arith, length-append x (joined parts))) (omega (arith, length-append x (joined parts))) last),
)

most-push : (most : ℕ) (parts : List (List Entry)) (es : List Entry)
    → HaveAtMost most parts → 0 < length es → length es ≤ most → HaveAtMost most (parts ++ es ∷ [])
most-push most [] es h some within = (some, within, tt)
most-push most (x ∷ parts) es (a, b, h) some within = (a, b, most-push most parts es h some within)

-- ---- what takes parts

pub same_parts : (a : Option PutParts) → IsSame a a
same_parts None = tt
same_parts (Some s) = refl

gains_nothing : (a : Option PutParts) → GainsParts a a []
gains_nothing None = tt
gains_nothing (Some s) = ap (λ (l : List NumberedPart). record { parts = l; list = s.list }) (sym (append-nil s.parts))

gains_more : (a b c : Option PutParts) (parts : List (List Entry)) (number : ℕ) (es : List Entry)
    → number ≡ suc (length parts) → GainsParts a b parts → GainsPart b c number es → GainsParts a c (parts ++ es ∷ [])
gains_more None b c parts number es is h g = tt
gains_more (Some s) None c parts number es is h g = absurd h
gains_more (Some s) (Some t) None parts number es is h g = absurd g
gains_more (Some s) (Some t) (Some u) parts number es is h g =
    g ∙ ap (λ (x : PutParts). with_parts (record { number = number; entries = es } ∷ []) x) h
    ∙ ap (λ (l : List NumberedPart). record { parts = l; list = s.list })
    (append_assoc s.parts (numbered 1 parts) (record { number = number; entries = es } ∷ [])
    ∙ ap (λ (l : List NumberedPart). s.parts ++ l)
    (ap (λ (n : ℕ). numbered 1 parts ++ record { number = n; entries = es } ∷ []) (is ∙ omega arith) ∙ sym (numbered-push 1 parts es)))

pub gains_same : (a b c : Option PutParts) (parts : List (List Entry)) → GainsParts a b parts → IsSame b c → GainsParts a c parts
gains_same None b c parts h g = tt
gains_same (Some s) None c parts h g = absurd h
gains_same (Some s) (Some t) None parts h g = absurd g
gains_same (Some s) (Some t) (Some u) parts h g = g ∙ h

-- as many of a list as it has are all of it
pub all_of : (xs : List Entry) (n : ℕ) → n ≡ length xs → take n xs ≡ xs
all_of xs n is = subst (λ (k : ℕ). take k xs ≡ xs) (sym is) (whole_of xs)
  where
    whole_of : (ys : List Entry) → take (length ys) ys ≡ ys
    whole_of [] = refl
    whole_of (y ∷ ys) = ap (λ (l : List Entry). y ∷ l) (whole_of ys)

-- ---- what is held

pub first_same : (p : Contents) (most : ℕ) {a b x y : List Entry} (parts : List (List Entry))
    → a ≡ b → x ≡ y → AreFirstParts p most a parts x → AreFirstParts p most b parts y
first_same p most {a} {b} {x} {y} parts same rest h =
    subst (λ (l : List Entry). AreFirstParts p most b parts l) rest (subst (λ (l : List Entry). AreFirstParts p most l parts x) same h)

left_nothing : (at_end : Bool) → IsLeft at_end []
left_nothing true = refl
left_nothing false = tt

-- nothing is missed where nothing came
finds_first : (p : Contents) (items : List Seen) → FindsAll p items 0 0 (Some at_first) None
finds_first p items =
    record { until = omega arith; ahead = tt; quiet = tt; all = λ m after most found. absurd (omega (arith, after, most)) }

pub holds_first : (p : Contents) (most : ℕ) (s : Parting)
    → s.cutter
    ≡ record { most = most; watched = record { count = 0; observer = Some at_first; doubt = None }; begin = 0; place = 0; waiting = [] }
    → s.next ≡ 1 → s.list.items ≡ [] → Holds p most false [] [] s
holds_first p most s cutter next list = record {
  are =
      λ rest left. first_same p most [] refl (ap (λ (c : CutterState). c.waiting ++ rest) (sym cutter))
      (record { joined = refl; places = tt; few = tt });
  cuts = λ rest. subst (Cuts p [] rest) (sym cutter) (record {
    begin = refl;
    count = refl;
    watches = (Follows at_first None, refl, refl);
    place = λ some. absurd (omega (arith, some));
    before = λ some. absurd (omega (arith, some));
    finds = finds_first p (items_of rest);
  });
  in_time = subst (IsFoundInTime p []) (sym cutter) (λ rest after. absurd (omega (arith, after)));
  reach = subst IsInReach (sym cutter) (omega arith);
  limit = ap (λ (c : CutterState). c.most) cutter;
  next = next;
  list = list;
}

-- as many words were watched as entries came
pub held_count : (p : Contents) (most : ℕ) (at_end : Bool) (parts : List (List Entry)) (es : List Entry) (s : Parting)
    → Holds p most at_end parts es s → s.cutter.watched.count ≡ length es
held_count p most at_end parts es s h =
    (h.cuts []).count ∙ (sym (length-append (joined parts) s.cutter.waiting)
    ∙ ap length (ap (λ (l : List Entry). joined parts ++ l) (sym (append-nil s.cutter.waiting))
    ∙ ((h.are [] (left_nothing at_end)).joined ∙ append-nil es)))

-- an entry more
pub holds_more : (p : Contents) (most : ℕ) (parts : List (List Entry)) (es : List Entry) (e : Entry) (old new : Parting)
    → Holds p most false parts es old → new.cutter.waiting ≡ old.cutter.waiting ++ e ∷ [] → new.cutter.most ≡ old.cutter.most
    → new.next ≡ old.next → new.list.items ≡ old.list.items
    → ((parted rest : List Entry) → Cuts p parted (e ∷ rest) old.cutter → Cuts p parted rest new.cutter)
    → ((parted rest : List Entry) → Cuts p parted (e ∷ rest) old.cutter → IsCurrent old.cutter → IsInReach new.cutter)
    → ((parted : List Entry) → CutsAlways p parted old.cutter → IsCurrent old.cutter → IsFoundInTime p parted old.cutter
    → IsFoundInTime p parted new.cutter)
    → IsCurrent old.cutter → Holds p most false parts (es ++ e ∷ []) new
holds_more p most parts es e old new h waiting same next list cuts reach in_time current = record {
  are =
      λ rest left. first_same p most parts (sym (append_assoc es (e ∷ []) rest))
      (sym (append_assoc old.cutter.waiting (e ∷ []) rest) ∙ ap (λ (l : List Entry). l ++ rest) (sym waiting)) (h.are (e ∷ rest) tt);
  reach = reach (joined parts) [] (h.cuts (e ∷ [])) current;
  in_time = in_time (joined parts) h.cuts current h.in_time;
  cuts = λ rest. cuts (joined parts) rest (h.cuts (e ∷ rest));
  limit = same ∙ h.limit;
  next = next ∙ h.next;
  list = list ∙ h.list;
}

-- a part more
pub holds_part : (p : Contents) (most : ℕ) (at_end : Bool) (parts : List (List Entry)) (es : List Entry) (size : ℕ) (old new : Parting)
    → Holds p most at_end parts es old → EndsFor at_end old.cutter size → IsInReach new.cutter → new.cutter.begin ≡ new.cutter.place
    → IsPart old.cutter size → new.cutter.waiting ≡ drop size old.cutter.waiting → new.cutter.most ≡ old.cutter.most
    → new.next ≡ old.next + 1 → new.list.items ≡ old.list.items ++ part_line old.next size old.cutter.begin
    → ((parted rest : List Entry) → Cuts p parted rest old.cutter → Cuts p (parted ++ take size old.cutter.waiting) rest new.cutter)
    → Holds p most at_end (parts ++ take size old.cutter.waiting ∷ []) es new
holds_part p most at_end parts es size old new h ends reach begins part waiting same next list cuts = record {
  are = λ rest left. record {
    joined = all rest ∙ (h.are rest left).joined;
    places = places-push p most (es ++ rest) 0 parts piece (h.are rest left).places (long rest left) (place rest left) (last rest left);
    few = most-push most parts piece (h.are rest left).few (omega (arith, part.some, taken)) (omega (arith, part.within, taken, h.limit));
  };
  reach = reach;
  in_time = λ rest after. absurd (omega (arith, after, begins));
  cuts =
      λ rest. subst (λ (l : List Entry). Cuts p l rest new.cutter) (sym (joined-push parts piece)) (cuts (joined parts) rest (h.cuts rest));
  limit = same ∙ h.limit;
  next = omega (arith, next, h.next, length-append parts (piece ∷ []));
  list = list ∙ ap (λ (l : List ℕ). l ++ part_line old.next size old.cutter.begin) h.list ∙ ap (λ (l : List ℕ). list_text parts ++ l) line
      ∙ sym (lines-push 1 0 parts piece);
}
  where
    piece : List Entry
    piece = take size old.cutter.waiting

    taken : length piece ≡ size
    taken = length-take-le size old.cutter.waiting (omega (arith, part.waits))

    all : (rest : List Entry) → joined (parts ++ piece ∷ []) ++ (new.cutter.waiting ++ rest) ≡ joined parts ++ (old.cutter.waiting ++ rest)
    all rest =
        ap (λ (l : List Entry). l ++ (new.cutter.waiting ++ rest)) (joined-push parts piece)
        ∙ (append_assoc (joined parts) piece (new.cutter.waiting ++ rest)
        ∙ ap (λ (l : List Entry). joined parts ++ l) (sym (append_assoc piece new.cutter.waiting rest)
        ∙ ap (λ (l : List Entry). l ++ rest) (ap (λ (l : List Entry). piece ++ l) waiting ∙ take-append-drop size old.cutter.waiting)))

    place : (rest : List Entry) → IsLeft at_end rest → IsPlace p (items_of (es ++ rest)) (0 + (length (joined parts) + length piece))
    place rest left =
        subst (IsPlace p (items_of (es ++ rest))) (omega (arith, part.place, (h.cuts rest).begin, taken))
        (subst (λ (l : List Entry). IsPlace p (items_of l) old.cutter.place) (h.are rest left).joined
        ((h.cuts rest).place (omega (arith, part.place, part.some))))

    long : (rest : List Entry) → IsLeft at_end rest → 0 + length (joined parts) + most < length (es ++ rest)
    long rest left = omega (
      arith,
      ends.1,
      h.limit,
      ap length (h.are rest left).joined,
      length-append (joined parts) (old.cutter.waiting ++ rest),
      length-append old.cutter.waiting rest,
    )

    last : (rest : List Entry)
        → IsLeft at_end rest → IsLastNear p most (es ++ rest) (0 + length (joined parts)) (0 + (length (joined parts) + length piece))
    last rest left =
        let end = ends.0 rest left p (joined parts) h.cuts in
        last_near p h.limit (h.are rest left).joined (omega (arith, (h.cuts rest).begin)) (omega (arith, (h.cuts rest).begin, taken))
        (end.1 h.in_time, end.0)

    line : part_line old.next size old.cutter.begin ≡ part_line (1 + length parts) (length piece) (0 + length (joined parts))
    line = line_same (h.next ∙ omega arith) (sym taken) ((h.cuts []).begin ∙ omega arith)

-- at most twice as many entries wait as a part may have
pub few_wait : {p : Contents} {most : ℕ} {at_end : Bool} {parts : List (List Entry)} {es : List Entry} (s : Parting)
    → Holds p most at_end parts es s → IsCurrent s.cutter → length s.cutter.waiting ≤ most + most
few_wait s h (reach, inl few) = omega (arith, few, h.limit)
few_wait s h (reach, inr (doubt, few)) = omega (arith, few, h.limit)

-- ---- and where it is

module _ {W : Type 0} (contents : W → Option (List ℕ)) (p : Contents) (most : ℕ) (known : Option PutParts) (first : Sheet W)
    (es : List Entry) where
  -- nothing is put where nothing came
  pub puts_nothing : ArePut (outputs contents known known first first) []
  puts_nothing = record { gains = gains_nothing known; says = says_nothing contents first }

  pub puts_more : (b c : Option PutParts) (t u : Sheet W) (parts : List (List Entry)) (s : Parting) (piece : List Entry) (at_end : Bool)
      → Holds p most at_end parts es s → ArePut (outputs contents known b first t) parts → GainsPart b c s.next piece
      → Says contents t u (part_line s.next (length piece) s.cutter.begin) → ArePut (outputs contents known c first u) (parts ++ piece ∷ [])
  puts_more b c t u parts s piece at_end h puts gains says = record {
    gains = gains_more known b c parts s.next piece h.next puts.gains gains;
    says =
        subst (Says contents first u)
        (ap (λ (l : List ℕ). list_text parts ++ l) (line_same (h.next ∙ omega arith) refl ((h.cuts []).begin ∙ omega arith))
        ∙ sym (lines-push 1 0 parts piece)) (puts.says ▹ says);
  }

  -- a part is put, and ended
  pub progress_more : (at_end : Bool) (b c : Option PutParts) (t u : Sheet W) (size : ℕ) (old new : Parting)
      → Progress p most at_end (outputs contents known b first t) es old → EndsFor at_end old.cutter size → IsInReach new.cutter
      → new.cutter.begin ≡ new.cutter.place → IsPart old.cutter size → new.cutter.waiting ≡ drop size old.cutter.waiting
      → new.cutter.most ≡ old.cutter.most → new.next ≡ old.next + 1
      → new.list.items ≡ old.list.items ++ part_line old.next size old.cutter.begin
      → ((parted rest : List Entry) → Cuts p parted rest old.cutter → Cuts p (parted ++ take size old.cutter.waiting) rest new.cutter)
      → GainsPart b c old.next (take size old.cutter.waiting) → Says contents t u (part_line old.next size old.cutter.begin)
      → Progress p most at_end (outputs contents known c first u) es new
  progress_more at_end b c t u size old new h ends reach begins part waiting same next list cuts gains says = record {
    parts = h.parts ++ take size old.cutter.waiting ∷ [];
    holds = holds_part p most at_end h.parts es size old new h.holds ends reach begins part waiting same next list cuts;
    puts = puts_more b c t u h.parts old (take size old.cutter.waiting) at_end h.holds h.puts gains
        (subst (λ (n : ℕ). Says contents t u (part_line old.next n old.cutter.begin))
        (sym (length-take-le size old.cutter.waiting (omega (arith, part.waits)))) says);
  }

  -- no part is put any more
  pub stopped : (at_end : Bool) (b c : Option PutParts) (t u : Sheet W) (s : Parting) (fault : ReadFault)
      (h : Progress p most at_end (outputs contents known b first t) es s)
      → length s.cutter.waiting ≤ most + most + 1 → IsSame b c → Says contents t u []
      → ((more : List Entry) → IsLeft at_end more → CannotGoOn p most (es ++ more) (length (joined h.parts)) s.cutter.waiting fault)
      → Stopped p most at_end (outputs contents known c first u) es fault
  stopped at_end b c t u s fault h few same nothing reason = record {
    parts = h.parts;
    rest = s.cutter.waiting;
    few = few;
    are = first_same p most h.parts (append-nil es) (append-nil s.cutter.waiting) (h.holds.are [] (left_nothing at_end));
    puts = record {
      gains = gains_same known b c h.parts h.puts.gains same;
      says = subst (Says contents first u) (append-nil (list_text h.parts)) (h.puts.says ▹ nothing);
    };
    reason = reason;
  }

  -- the last part is put
  pub finished : (b c : Option PutParts) (t u : Sheet W) (s : Parting) (list : List ℕ)
      → Progress p most true (outputs contents known b first t) es s → length s.cutter.waiting ≤ s.cutter.most
      → GainsPart b c s.next s.cutter.waiting → Says contents t u (part_line s.next (length s.cutter.waiting) s.cutter.begin)
      → list ≡ s.list.items ++ part_line s.next (length s.cutter.waiting) s.cutter.begin
      → Finished p most (outputs contents known c first u) es list
  finished b c t u s list h few gains says is = record {
    parts = h.parts ++ s.cutter.waiting ∷ [];
    are = record {
      first = h.parts;
      last = s.cutter.waiting;
      all = refl;
      begin = first_same p most h.parts (append-nil es) (append-nil s.cutter.waiting) (h.holds.are [] refl);
      few = omega (arith, few, h.holds.limit);
    };
    puts = puts_more b c t u h.parts s s.cutter.waiting true h.holds h.puts gains says;
    text = is ∙ ap (λ (l : List ℕ). l ++ part_line s.next (length s.cutter.waiting) s.cutter.begin) h.holds.list
        ∙ ap (λ (l : List ℕ). list_text h.parts ++ l) (line_same (h.holds.next ∙ omega arith) refl ((h.holds.cuts []).begin ∙ omega arith))
        ∙ sym (lines-push 1 0 h.parts s.cutter.waiting);
  }

  -- so many of the entries that wait, which are all
  pub finished_by : (b c : Option PutParts) (t u : Sheet W) (s : Parting) (list : List ℕ) (size : ℕ) → size ≡ length s.cutter.waiting
      → Progress p most true (outputs contents known b first t) es s → length s.cutter.waiting ≤ s.cutter.most
      → GainsPart b c s.next (take size s.cutter.waiting) → Says contents t u (part_line s.next size s.cutter.begin)
      → list ≡ s.list.items ++ part_line s.next size s.cutter.begin → Finished p most (outputs contents known c first u) es list
  finished_by b c t u s list size is h few gains says text = finished b c t u s list h few
      (subst (λ (l : List Entry). GainsPart b c s.next l) (all_of s.cutter.waiting size is) gains)
      (subst (λ (n : ℕ). Says contents t u (part_line s.next n s.cutter.begin)) is says)
      (text ∙ ap (λ (n : ℕ). s.list.items ++ part_line s.next n s.cutter.begin) is)

-- ---- why it ends

pub trouble_reason : (p : Contents) (most : ℕ) (entries : List Entry) (from : ℕ) (rest : List Entry) (f : ReadFault)
    → (f ≡ read.Device) ⊎ (f ≡ read.OutOfMemory) → CannotGoOn p most entries from rest f
trouble_reason p most entries from rest f (inl e) = subst (CannotGoOn p most entries from rest) (sym e) tt
trouble_reason p most entries from rest f (inr e) = subst (CannotGoOn p most entries from rest) (sym e) tt

-- no place is near enough
pub part_reason : (p : Contents) (most : ℕ) (at_end : Bool) (parts : List (List Entry)) (es : List Entry) (s : Parting) (f : ReadFault)
    → Holds p most at_end parts es s → (f ≡ read.TooMany) ⊎ (f ≡ read.OutOfMemory) → s.cutter.most < length s.cutter.waiting
    → EndsNowhereFor at_end s.cutter
    → (more : List Entry) → IsLeft at_end more → CannotGoOn p most (es ++ more) (length (joined parts)) s.cutter.waiting f
part_reason p most at_end parts es s f h (inr e) many nowhere more left =
    subst (CannotGoOn p most (es ++ more) (length (joined parts)) s.cutter.waiting) (sym e) tt
part_reason p most at_end parts es s f h (inl e) many nowhere more left =
    subst (CannotGoOn p most (es ++ more) (length (joined parts)) s.cutter.waiting) (sym e) (
      omega (arith, many, h.limit),
      none_near p h.limit (h.are more left).joined (h.cuts more).begin (nowhere more left p (joined parts) h.cuts),
    )

-- the part that the cutter names, where nothing comes any more, and before
pub part_at_end : {E : Type 0} (at_end : Bool) (c : CutterState) (r : Result (Option ℕ) E)
    → at_end ≡ true → IfOk r (λ o. IfSome o (IsNextPartAtEnd c)) → IfOk r (λ o. IfSome o (λ size. IsPart c size × EndsFor at_end c size))
part_at_end at_end c (Err e) is h = tt
part_at_end at_end c (Ok None) is h = tt
part_at_end at_end c (Ok (Some size)) is h =
    (h.0, (λ rest left. subst (EndsLast c size) (sym (subst (λ (b : Bool). IsLeft b rest) is left)) h.1, h.2))

pub part_yet : {E : Type 0} (at_end : Bool) (c : CutterState) (r : Result (Option ℕ) E)
    → IfOk r (λ o. IfSome o (IsNextPart c)) → IfOk r (λ o. IfSome o (λ size. IsPart c size × EndsFor at_end c size))
part_yet at_end c (Err e) h = tt
part_yet at_end c (Ok None) h = tt
part_yet at_end c (Ok (Some size)) h = (h.0, (λ rest left. h.1 rest, h.2))

pub nowhere_at_end : (at_end : Bool) (c : CutterState)
    → at_end ≡ true → HasNoNextPartAtEnd c → (c.most < length c.waiting) × (IsInReach c → EndsNowhereFor at_end c)
nowhere_at_end at_end c is h =
    (h.0, λ reach rest left. subst (EndsNowhere c) (sym (subst (λ (b : Bool). IsLeft b rest) is left)) (h.1 reach))

pub nowhere_yet : (at_end : Bool) (c : CutterState)
    → HasNoNextPart c → (c.most < length c.waiting) × (IsInReach c → EndsNowhereFor at_end c)
nowhere_yet at_end c h = (h.0, λ reach rest left. h.1 reach rest)

-- where nothing comes any more
pub progress_at_end : {W : Type 0} (p : Contents) (most : ℕ) (o : Outputs W) (es : List Entry) (s : Parting)
    → Progress p most false o es s → Progress p most true o es s
progress_at_end p most o es s h = record {
  parts = h.parts;
  holds = record {
    are = λ rest left. h.holds.are rest tt;
    cuts = h.holds.cuts;
    in_time = h.holds.in_time;
    reach = h.holds.reach;
    limit = h.holds.limit;
    next = h.holds.next;
    list = h.holds.list;
  };
  puts = h.puts;
}

-- all entries came
pub cuts_all : {W : Type 0} (p : Contents) (most : ℕ) (o : Outputs W) (t : Taken) (left new : Option Recording) (es : List Entry)
    (list : List ℕ)
    → Came t.recording es left → t.given ≡ length es → GivesNext left new (Ok None) → Finished p most o es list → CutsAll p most t o list
cuts_all p most o t left new es list came given gives h =
    record {
      entries = es;
      parts = h.parts;
      came = given;
      all = came_whole t.recording left new es gives came;
      are = h.are;
      puts = h.puts;
      text = h.text;
    }

-- parts could not be put
pub cuts_until : {W : Type 0} (p : Contents) (most : ℕ) (o : Outputs W) (t : Taken) (left : Option Recording) (es : List Entry)
    (f : ReadFault) → Came t.recording es left → t.given ≡ length es → Stopped p most false o es f → CutsUntil p most t o f
cuts_until {W} p most o t left es f came given h = record {
  entries = es;
  parts = h.parts;
  came = given;
  rest = h.rest;
  few = h.few;
  are = h.are;
  puts = h.puts;
  ends = ends t.recording came;
}
  where
    ends : (recording : Option Recording) → Came recording es left
        → IfSome recording (λ r. (later : Recording) × (r ≡ with_entries es later)
        × (Stops f later ⊎ CannotGoOn p most (es ++ later.entries) (length (joined h.parts)) h.rest f))
    ends None c = tt
    ends (Some r) (later, is, all) = (later, all, inr (h.reason later.entries tt))

-- nor at the end
pub cuts_until_end : {W : Type 0} (p : Contents) (most : ℕ) (o : Outputs W) (t : Taken) (left new : Option Recording) (es : List Entry)
    (f : ReadFault)
    → Came t.recording es left → t.given ≡ length es → GivesNext left new (Ok None) → Stopped p most true o es f → CutsUntil p most t o f
cuts_until_end {W} p most o t left new es f came given gives h = record {
  entries = es;
  parts = h.parts;
  came = given;
  rest = h.rest;
  few = h.few;
  are = h.are;
  puts = h.puts;
  ends = ends t.recording came;
}
  where
    ends : (recording : Option Recording) → Came recording es left
        → IfSome recording (λ r. (later : Recording) × (r ≡ with_entries es later)
        × (Stops f later ⊎ CannotGoOn p most (es ++ later.entries) (length (joined h.parts)) h.rest f))
    ends None c = tt
    ends (Some r) (later, is, all) = (later, all, inr (h.reason later.entries (ap (λ (q : Recording). q.entries) (rw is at gives))))

-- the recording has a fault
pub cuts_before : {W : Type 0} (p : Contents) (most : ℕ) (o : Outputs W) (t : Taken) (left new : Option Recording) (es : List Entry)
    (s : Parting) (f : ReadFault)
    → Came t.recording es left → t.given ≡ length es → GivesNext left new (Err f) → Progress p most false o es s → IsCurrent s.cutter
    → CutsUntil p most t o f
cuts_before {W} p most o t left new es s f came given gives h current = record {
  entries = es;
  parts = h.parts;
  came = given;
  rest = s.cutter.waiting;
  few = omega (arith, few_wait s h.holds current);
  are = first_same p most h.parts (append-nil es) (append-nil s.cutter.waiting) (h.holds.are [] tt);
  puts = h.puts;
  ends = ends t.recording came;
}
  where
    ends : (recording : Option Recording) → Came recording es left
        → IfSome recording (λ r. (later : Recording) × (r ≡ with_entries es later)
        × (Stops f later ⊎ CannotGoOn p most (es ++ later.entries) (length (joined h.parts)) s.cutter.waiting f))
    ends None c = tt
    ends (Some r) (later, is, all) = (later, all, inl (rw is at gives))
