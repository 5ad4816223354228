-- Where a replay along a certificate's lines stands, and what each line says of it.
use Rattle.std.proofs.Common.{◌≡◌, ◌≤◌, ◌+◌, ◌∙◌, ◌++◌, ◌∷◌, ℕ, zero, suc, List, [], length, map, take, drop, Bool, true, false, ◌==◌, nat_le, if◌then◌else◌, Option, Some, None, option_map, option_and_then, slice_get, refl, sym, ap, subst, arith}
use Rattle.std.proofs.lemmas.List.{drop-drop}
use Rattle.std.proofs.lemmas.Option.{same_Some}
use Rattle.a429_profile.specs.Profile.{Contents}
use Rattle.a429_link.specs.declared.file.FileBytes.{FileBytes}
use Rattle.a429_link.specs.declared.seen.Seen.{Seen}
use Rattle.a429_link.specs.State.{State, start}
use Rattle.a429_link.specs.Link.{with_earlier, handed_out}
use Rattle.a429_link.proofs.LinkCalls.{handed_earlier}
use Rattle.a429_record.specs.declared.entry.Entry.{Entry}
use Rattle.a429_record.specs.Recording.{Recording}
use Rattle.a429_cert.specs.declared.line.CertLine.{CertLine}
use Rattle.a429_cert.specs.Lines.{certificate_lines}
use Rattle.a429_cert.specs.CutLines.{cut, when_short, GivesLine}
use Rattle.a429_cert.specs.Explained.{items_of, Leads}
use Rattle.a429_cert.specs.declared.version.Version.{Version}
use Rattle.a429_cert.specs.declared.version.Version.TheVariants.{One, Two}
use Rattle.a429_cert.specs.declared.explained.Head.{Head}
use Rattle.a429_cert.specs.Version.{without_x, read_as, step_lines}
use Rattle.a429_cert.specs.Fault.{HasHead, SaysLine}
use Rattle.a429_cert.specs.Passing.{PassesText}
use Rattle.a429_cert.specs.Stream.{left_after, PassesOver}
use Rattle.a429_cert.proofs.ExplainedFacts.{drop_get, line_read, passes_from}
use Rattle.a429_cert.proofs.EarlierFiles.{text_earlier}
use Rattle.a429_cert.specs.Change.{change}

-- ---- lines and entries that come

pub says_back : (line : Option (List ℕ)) (l : CertLine) → SaysLine (cut line) l → SaysLine line l
says_back None l s = s
says_back (Some text) l s = by (nat_le (length text) 2287) s
  where
    by : (test : Bool) → SaysLine (if test then Some text else None) l → SaysLine (Some text) l
    by true s = s
    by false s = absurd s

-- the bytes still to come are those of the lines behind the first k, where they are known
abbrev pub AreLeftAfter : List (Option (List ℕ)) → ℕ → Option (List ℕ) → Type 0
AreLeftAfter lines k known = (bytes : List ℕ) × (known ≡ Some bytes) × (certificate_lines bytes ≡ drop k lines)

pub line_next : (lines : List (Option (List ℕ))) (k : ℕ) (old new line : Option (List ℕ))
    → AreLeftAfter lines k old → GivesLine old new line true → option_map cut (slice_get lines k) ≡ Some line
line_next lines k None new line h g = absurd (cc h.1)
line_next lines k (Some xs) None line h g = absurd g
line_next lines k (Some xs) (Some ys) line h g =
    let same : certificate_lines xs ≡ drop k lines = ap certificate_lines (same_Some xs h.0 h.1) ∙ h.2 in
    ap (option_map cut) (sym (drop_get lines k) ∙ ap (λ (l : List (Option (List ℕ))). slice_get l 0) (sym same)) ∙ g.0

pub lines_behind : (lines : List (Option (List ℕ))) (k : ℕ) (old new : Option (List ℕ)) (text : List ℕ)
    → AreLeftAfter lines k old → GivesLine old new (Some text) true → AreLeftAfter lines (suc k) new
lines_behind lines k None new text h g = absurd (cc h.1)
lines_behind lines k (Some xs) None text h g = absurd g
lines_behind lines k (Some xs) (Some ys) text h g =
    let same : certificate_lines xs ≡ drop k lines = ap certificate_lines (same_Some xs h.0 h.1) ∙ h.2 in
    let n : k + 1 ≡ suc k = omega arith in
    (ys, refl, g.1 ∙ ap (drop 1) same ∙ drop-drop 1 k lines ∙ ap (λ m. drop m lines) n)

pub next_at : (entries : List Entry) (i : ℕ) → slice_get (items_of (drop i entries)) 0 ≡ slice_get (items_of entries) i
next_at [] zero = refl
next_at [] (suc i) = refl
next_at (e ∷ entries) zero = refl
next_at (e ∷ entries) (suc i) = next_at entries i

rest_left_after : (r : Recording) (used i : ℕ) → left_after used (left_after i r) ≡ left_after (i + used) r
rest_left_after r used i = ap (λ (l : List Entry). left l) (drop-drop used i r.entries)
  where
    left : List Entry → Recording
    left l = record { entries = l; fault = r.fault }

-- ---- where a replay is

-- k lines behind the first two were passed over the first i entries, and these files were handed out
pub record StandsFrom (p : Contents) (from : State) (text : List ℕ) (r : Recording) (d : Head) (k i : ℕ) (taken : List FileBytes)
    (s : State) (left : Option (List ℕ)) (rec : Option Recording) : Type 0 where
  pub says : HasHead text d
  pub lines : AreLeftAfter (drop 2 (certificate_lines text)) k left
  pub inside : i ≤ length (items_of r.entries)
  pub reached : Leads p from (take k (step_lines d.version text)) (take i (items_of r.entries)) (with_earlier taken s)
  pub rest : rec ≡ Some (left_after i r)

-- of a run from its start
abbrev pub Stands : Contents → List ℕ → Recording → Head → ℕ → ℕ → List FileBytes → State → Option (List ℕ) → Option Recording → Type 0
Stands p text r d k i taken s left rec = StandsFrom p (start p d.first) text r d k i taken s left rec

pub cut_of : (o : Option (Option (List ℕ))) (line : Option (List ℕ))
    → option_map cut o ≡ Some line → (raw : Option (List ℕ)) × (o ≡ Some raw) × (cut raw ≡ line)
cut_of None line e = absurd (cc e)
cut_of (Some raw) line e = (raw, refl, same_Some (cut raw) line e)

-- a line that is cut is none of a version that reads it
read_cut : (v : Version) (raw : Option (List ℕ)) → read_as v (cut raw) ≡ cut (read_as v raw)
read_cut Two raw = refl
read_cut One None = refl
read_cut One (Some []) = refl
read_cut One (Some (b ∷ text)) = by (nat_le (length (b ∷ text)) 2287) (b == 120) refl refl
  where
    by : (short is_x : Bool) → nat_le (length (b ∷ text)) 2287 ≡ short → (b == 120) ≡ is_x
        → option_and_then without_x (if short then Some (b ∷ text) else None)
        ≡ option_and_then when_short (if is_x then None else Some (b ∷ text))
    by true true e g = rw g refl
    by true false e g = rw (g, e) refl
    by false true e g = refl
    by false false e g = rw e refl

nothing_read : (v : Version) → read_as v None ≡ None
nothing_read One = refl
nothing_read Two = refl

-- the next line, as the version reads it; what was handed out of it may be cut
pub line_cut : (v : Version) (lines : List (Option (List ℕ))) (k : ℕ) (left more line : Option (List ℕ))
    → AreLeftAfter lines k left → GivesLine left more line true
    → (raw : Option (List ℕ)) × (slice_get (map (read_as v) lines) k ≡ Some raw) × (cut raw ≡ read_as v line)
line_cut v lines k left more line h g =
    let raw = cut_of (slice_get lines k) line (line_next lines k left more line h g) in
    (read_as v raw.0, line_read v lines k raw.0 raw.1, sym (read_cut v raw.0) ∙ ap (read_as v) raw.2)

pub text_back : (p : Contents) (raw line : Option (List ℕ)) (next : Option Seen) (s t : State) (used : ℕ)
    → cut raw ≡ line → PassesText p line next (change s t) used → PassesText p raw next (change s t) used
text_back p raw line next s t used e h = (h.0, says_back raw h.0 (subst (λ o. SaysLine o h.0) (sym e) h.1), h.2)

pub goes_from : (p : Contents) (from : State) (text : List ℕ) (r : Recording) (d : Head) (k i used : ℕ) (taken : List FileBytes)
    (s t : State) (line left more : Option (List ℕ)) (rec new : Option Recording)
    → StandsFrom p from text r d k i taken s left rec → GivesLine left more line true
    → PassesOver p (read_as d.version line) (change s t) (change rec new) used
    → StandsFrom p from text r d (suc k) (i + used) taken t more new
goes_from p from text r d k i used taken s t None left more rec new h g m =
    absurd ((subst (λ q. PassesOver p q (change s t) (change (Some (left_after i r)) new) used) (nothing_read d.version)
    (subst (λ o. PassesOver p (read_as d.version None) (change s t) (change o new) used) h.rest m)).0.1)
goes_from p from text r d k i used taken s t (Some said) left more rec new h g m =
    let lines = drop 2 (certificate_lines text) in
    let items = items_of r.entries in
    let read = read_as d.version (Some said) in
    let raw = line_cut d.version lines k left more (Some said) h.lines g in
    let here = subst (λ o. PassesOver p read (change s t) (change o new) used) h.rest m in
    let passes = subst (λ o. PassesText p read o (change s t) used) (next_at r.entries i) here.0 in
    let on =
    passes_from p from (step_lines d.version text) items k i used raw.0 (with_earlier taken s)
    (with_earlier taken t) raw.1 h.inside h.reached
    (text_back p raw.0 read (slice_get items i) (with_earlier taken s) (with_earlier taken t) used raw.2
    (text_earlier p read (slice_get items i) taken s t used passes)) in
    record {
      says = h.says;
      lines = lines_behind lines k left more said h.lines g;
      inside = on.inside;
      reached = on.reached;
      rest = here.1 ∙ ap (λ (q : Recording). Some q) (rest_left_after r used i);
    }

pub goes_on : (p : Contents) (text : List ℕ) (r : Recording) (d : Head) (k i used : ℕ) (taken : List FileBytes) (s t : State)
    (line left more : Option (List ℕ)) (rec new : Option Recording)
    → Stands p text r d k i taken s left rec → GivesLine left more line true
    → PassesOver p (read_as d.version line) (change s t) (change rec new) used → Stands p text r d (suc k) (i + used) taken t more new
goes_on p text r d = goes_from p (start p d.first) text r d

-- its files are handed out
pub hands_from : (p : Contents) (from : State) (text : List ℕ) (r : Recording) (d : Head) (k i : ℕ) (taken : List FileBytes) (s : State)
    (left : Option (List ℕ)) (rec : Option Recording)
    → StandsFrom p from text r d k i taken s left rec
    → StandsFrom p from text r d k i (taken ++ s.sink.received.files) (handed_out s) left rec
hands_from p from text r d k i taken s left rec h =
    record {
      says = h.says;
      lines = h.lines;
      inside = h.inside;
      reached =
          subst (λ (q : State). Leads p from (take k (step_lines d.version text)) (take i (items_of r.entries)) q)
          (sym (handed_earlier taken s)) h.reached;
      rest = h.rest;
    }

pub hands_out : (p : Contents) (text : List ℕ) (r : Recording) (d : Head) (k i : ℕ) (taken : List FileBytes) (s : State)
    (left : Option (List ℕ)) (rec : Option Recording)
    → Stands p text r d k i taken s left rec → Stands p text r d k i (taken ++ s.sink.received.files) (handed_out s) left rec
hands_out p text r d = hands_from p (start p d.first) text r d
