-- What `cut` puts and writes, and what it leaves after a fault.
use Rattle.std.proofs.Common.{◌≡◌, ◌⊎◌, ◌∙◌, ◌++◌, ℕ, List, length, [], append-nil, Bool, true, false, Option, Some, None, Result, refl, sym, ap, inl, inr, subst}
use Rattle.std.specs.Prelude.{IfSome}
use Rattle.a429_word.specs.declared.sheet.Sheet.{Sheet}
use Rattle.a429_word.specs.declared.trouble.Trouble.{Trouble}
use Rattle.a429_word.specs.declared.trouble.Trouble.TheVariants as trouble
use Rattle.a429_profile.specs.Profile.{Contents}
use Rattle.a429_record.specs.declared.entry.Entry.{Entry}
use Rattle.a429_record.specs.declared.fault.ReadFault.{ReadFault}
use Rattle.a429_record.specs.declared.fault.ReadFault.TheVariants as read
use Rattle.a429_record.specs.Recording.{Recording, whole}
use Rattle.a429_record.specs.Rows.{Stops}
use Rattle.a429_parts.specs.Keeping.{BeginsWith, Taken, with_entries}
use Rattle.a429_parts.specs.Parts.{GainsAll, GainsList, GainsParts, IsSame, PutParts, joined, list_text, numbered, with_list}
use Rattle.a429_parts.specs.Parting.{CannotGoOn, CutsAll, CutsUntil, outputs}
use Rattle.a429_parts.proofs.PartsFacts.{gains_same}
use Rattle.a429_commands.specs.declared.fault.RunFault.{RunFault}
use Rattle.a429_commands.specs.Ends as Out
use Rattle.a429_commands.specs.Output.{Output}
use Rattle.a429_commands.specs.Profile.{IsProfileFault, IsProfileOf}
use Rattle.a429_commands.specs.Streaming.{IsFaultToCome}
use Rattle.a429_commands.specs.Cut.{CutsInto, IsPartsFault, Placed, PutsAllParts, PutsFirstParts, PutsPartsUntil, PutsSomeParts, Task, of_cut, of_parts, reported_by_cut, task, troubled}
use Rattle.a429_commands.proofs.EndsFacts.{ends_as}

-- entries, and then the rest of a recording, with a fault or by one of `cut`
abbrev pub Ends : Contents → Option Recording → ℕ → List Entry → ℕ → List Entry → ReadFault → Type 0
Ends p rec most entries from rest f =
    IfSome rec (λ r. (later : Recording) × (r ≡ with_entries entries later)
    × (Stops f later ⊎ CannotGoOn p most (entries ++ later.entries) from rest f))

begins : (p : Contents) (rec : Option Recording) (most : ℕ) (es : List Entry) (from : ℕ) (rest : List Entry) (f : ReadFault)
    → Ends p rec most es from rest f → BeginsWith rec es
begins p None most es from rest f h = tt
begins p (Some r) most es from rest f (later, is, why) = (later, is)

begins_all : (rec : Option Recording) (es : List Entry) → IfSome rec (λ r. r ≡ whole es) → BeginsWith rec es
begins_all None es h = tt
begins_all (Some r) es h = (whole [], h ∙ ap whole (sym (append-nil es)))

-- ---- why it fails

fault_is : (r later : Recording) (es : List Entry) (f : ReadFault)
    → r ≡ with_entries es later → later ≡ record { entries = []; fault = Some f } → r.fault ≡ Some f
fault_is r later es f is stops = ap (λ (q : Recording). q.fault) is ∙ ap (λ (q : Recording). q.fault) stops

fault_of_cut : (p : Contents) (rec : Option Recording) (most : ℕ) (es : List Entry) (from : ℕ) (rest : List Entry) (f : ReadFault)
    → Ends p rec most es from rest f → (f ≡ read.Device → ⊥) → (f ≡ read.OutOfMemory → ⊥) → (f ≡ read.TooMany → ⊥) → IsFaultToCome rec f
fault_of_cut p rec most es from rest read.Device h a b n = absurd (a refl)
fault_of_cut p rec most es from rest read.OutOfMemory h a b n = absurd (b refl)
fault_of_cut p rec most es from rest read.TooMany h a b n = absurd (n refl)
fault_of_cut p None most es from rest read.Header h a b n = tt
fault_of_cut p None most es from rest (read.Row i) h a b n = tt
fault_of_cut p None most es from rest (read.TimeBack i) h a b n = tt
fault_of_cut p None most es from rest read.Failed h a b n = tt
fault_of_cut p (Some r) most es from rest read.Header (later, is, inl stops) a b n = fault_is r later es read.Header is stops
fault_of_cut p (Some r) most es from rest (read.Row i) (later, is, inl stops) a b n = fault_is r later es (read.Row i) is stops
fault_of_cut p (Some r) most es from rest (read.TimeBack i) (later, is, inl stops) a b n = fault_is r later es (read.TimeBack i) is stops
fault_of_cut p (Some r) most es from rest read.Failed (later, is, inl stops) a b n = fault_is r later es read.Failed is stops
fault_of_cut p (Some r) most es from rest read.Header (later, is, inr none) a b n = absurd none
fault_of_cut p (Some r) most es from rest (read.Row i) (later, is, inr none) a b n = absurd none
fault_of_cut p (Some r) most es from rest (read.TimeBack i) (later, is, inr none) a b n = absurd none
fault_of_cut p (Some r) most es from rest read.Failed (later, is, inr none) a b n = absurd none

-- what came until the fault, and why
module _ {W : Type 0} (contents : W → Option (List ℕ)) (p : Contents) (most : ℕ) (k : Taken) (reader : Bool) {s t : Sheet W}
    (o : Placed) where
  pub ends_by : (f : ReadFault) (until : CutsUntil p most k (outputs contents o.old o.new s t) f)
      → (f ≡ read.Device → (reader ≡ true) ⊎ (o.failed ≡ true)) → IsPartsFault (task most k reader) o (reported_by_cut f)
  ends_by read.Device h failed = failed refl
  ends_by read.OutOfMemory h failed = tt
  ends_by read.Header h failed =
      fault_of_cut p k.recording most h.entries (length (joined h.parts)) h.rest read.Header h.ends (λ e. absurd (cc e))
      (λ e. absurd (cc e)) (λ e. absurd (cc e))
  ends_by (read.Row i) h failed =
      fault_of_cut p k.recording most h.entries (length (joined h.parts)) h.rest (read.Row i) h.ends (λ e. absurd (cc e))
      (λ e. absurd (cc e)) (λ e. absurd (cc e))
  ends_by (read.TimeBack i) h failed =
      fault_of_cut p k.recording most h.entries (length (joined h.parts)) h.rest (read.TimeBack i) h.ends (λ e. absurd (cc e))
      (λ e. absurd (cc e)) (λ e. absurd (cc e))
  ends_by read.TooMany h failed = tt
  ends_by read.Failed h failed =
      fault_of_cut p k.recording most h.entries (length (joined h.parts)) h.rest read.Failed h.ends (λ e. absurd (cc e))
      (λ e. absurd (cc e)) (λ e. absurd (cc e))

  -- ---- what is left

  pub cuts_into : (list : List ℕ) (all : CutsAll p most k (outputs contents o.old o.new s t) list) → CutsInto (task most k reader) o p list
  cuts_into list all = record {
    entries = all.entries;
    parts = all.parts;
    came = all.came;
    all = all.all;
    are = all.are;
    gains = all.puts.gains;
    text = all.text;
  }

  pub leaves_all : (list : List ℕ) (all : CutsAll p most k (outputs contents o.old o.new s t) list)
      → PutsSomeParts (task most k reader) o p (list_text all.parts)
  leaves_all list all = record {
    entries = all.entries;
    parts = all.parts;
    came = all.came;
    first = begins_all k.recording all.entries all.all;
    are = inl all.are;
    gains = all.puts.gains;
    text_is = refl;
  }

  pub leaves_some : (f : ReadFault) (until : CutsUntil p most k (outputs contents o.old o.new s t) f)
      → PutsSomeParts (task most k reader) o p (list_text until.parts)
  leaves_some f h = record {
    entries = h.entries;
    parts = h.parts;
    came = h.came;
    first = begins p k.recording most h.entries (length (joined h.parts)) h.rest f h.ends;
    are = inr (h.rest, h.few, h.are);
    gains = h.puts.gains;
    text_is = refl;
  }

  leaves_first : (f : ReadFault) (until : CutsUntil p most k (outputs contents o.old o.new s t) f)
      → PutsFirstParts (task most k reader) o f p (list_text until.parts)
  leaves_first f h = record {
    entries = h.entries;
    parts = h.parts;
    came = h.came;
    rest = h.rest;
    few = h.few;
    are = h.are;
    ends = h.ends;
    gains = h.puts.gains;
    text_is = refl;
  }

  pub leaves_until : (f : ReadFault) (until : CutsUntil p most k (outputs contents o.old o.new s t) f)
      → PutsPartsUntil (task most k reader) o (reported_by_cut f) p (list_text until.parts)
  leaves_until read.Device h = leaves_some read.Device h
  leaves_until read.OutOfMemory h = leaves_some read.OutOfMemory h
  leaves_until read.Header h = leaves_first read.Header h
  leaves_until (read.Row i) h = leaves_first (read.Row i) h
  leaves_until (read.TimeBack i) h = leaves_first (read.TimeBack i) h
  leaves_until read.TooMany h = leaves_first read.TooMany h
  leaves_until read.Failed h = leaves_first read.Failed h

-- ---- the list

gains_all : (a b c : Option PutParts) (parts : List (List Entry)) (text : List ℕ)
    → text ≡ list_text parts → GainsParts a b parts → GainsList b c text → GainsAll a c parts
gains_all None b c parts text is h g = tt
gains_all (Some s) None c parts text is h g = absurd h
gains_all (Some s) (Some t) None parts text is h g = absurd g
gains_all (Some s) (Some t) (Some u) parts text is h g =
    g ∙ ap (with_list text) h ∙ ap (λ (l : List ℕ). with_list l (record { parts = s.parts ++ numbered 1 parts; list = s.list })) is

module _ (t : Task) (p : Contents) (o : Placed) (c : Option PutParts) (failed : Bool) (list : List ℕ) (cut : CutsInto t o p list) where
  pub puts_all : GainsList o.new c list → PutsAllParts t (record { old = o.old; new = c; failed = failed }) p list
  puts_all gains = record {
    entries = cut.entries;
    parts = cut.parts;
    came = cut.came;
    all = cut.all;
    are = cut.are;
    gains = gains_all o.old o.new c cut.parts list cut.text cut.gains gains;
    text_is = cut.text;
  }

  puts_no_list : IsSame o.new c → PutsSomeParts t (record { old = o.old; new = c; failed = failed }) p list
  puts_no_list same = record {
    entries = cut.entries;
    parts = cut.parts;
    came = cut.came;
    first = begins_all t.taken.recording cut.entries cut.all;
    are = inl cut.are;
    gains = gains_same o.old o.new c cut.parts cut.gains same;
    text_is = cut.text;
  }

  -- the list was not put
  pub without_list : (why : Trouble) → IsSame o.new c → (why ≡ trouble.Device → failed ≡ true)
      → (of_parts p t (record { old = o.old; new = c; failed = failed })).stops (troubled why) list
  without_list trouble.Device same device = (puts_no_list same, inr (device refl))
  without_list trouble.OutOfMemory same device = (puts_no_list same, tt)

-- the sheet has not failed
pub but_sheet : (reader parts sheet : Bool)
    → (reader ≡ true) ⊎ ((parts ≡ true) ⊎ (sheet ≡ true)) → sheet ≡ false → (reader ≡ true) ⊎ (parts ≡ true)
but_sheet reader parts sheet (inl e) works = inl e
but_sheet reader parts sheet (inr (inl e)) works = inr e
but_sheet reader parts sheet (inr (inr e)) works = absurd (cc (e, works))

-- by the profile whose text the bytes are
pub by_profile : {W : Type 0} {o : Output W} {r : Result ℕ RunFault} (profile : List ℕ) (p : Contents) (t : Task) (put : Placed)
    → IsProfileOf profile p → Out.Ends o (of_parts p t put) r → Out.Ends o (of_cut profile t put) r
by_profile profile p t put is =
    ends_as (of_parts p t put) (of_cut profile t put) (λ status text h. (h.0, (p, is, h.1), h.2)) (λ e text h. ((p, is, h.0), h.1))
    (λ text h. (p, is, h))
    (λ e h. (subst (IsProfileFault profile) (sym h.0) is.0, h.1))
