-- What a listener has heard where a replay along a certificate's lines ends before the last of them.
use Rattle.std.proofs.Common.{◌≡◌, ◌≢◌, ◌⊎◌, ◌+◌, inl, inr, ℕ, List, [], drop, true, false, Option, Some, None, slice_get, Ok, Err, refl, sym, subst}
use Rattle.a429_profile.specs.Profile.{Contents}
use Rattle.a429_link.specs.declared.file.FileBytes.{FileBytes}
use Rattle.a429_link.specs.State.{State}
use Rattle.a429_link.specs.Link.{with_earlier}
use Rattle.a429_record.specs.declared.entry.Entry.{Entry}
use Rattle.a429_record.specs.declared.fault.ReadFault.{ReadFault}
use Rattle.a429_record.specs.declared.fault.ReadFault.TheVariants as read
use Rattle.a429_record.specs.Recording.{Recording}
use Rattle.a429_record.specs.Rows.{Stops, GivesNext}
use Rattle.a429_cert.specs.declared.fault.CertFault.{CertFault}
use Rattle.a429_cert.specs.declared.fault.CertFault.TheVariants as of
use Rattle.a429_cert.specs.declared.stream_fault.StreamFault.{StreamFault}
use Rattle.a429_cert.specs.declared.stream_fault.StreamFault.TheVariants as stream
use Rattle.a429_cert.specs.declared.explained.Head.{Head}
use Rattle.a429_cert.specs.Lines.{certificate_lines}
use Rattle.a429_cert.specs.Version.{read_as, step_lines}
use Rattle.a429_cert.specs.CutLines.{GivesLine}
use Rattle.a429_cert.specs.Explained.{items_of}
use Rattle.a429_cert.specs.Fault.{at_line, IsFaultOfHead, IsFaultAt}
use Rattle.a429_cert.specs.Stream.{left_after, RefusesOver, IsUnreported, of_read}
use Rattle.a429_cert.specs.StreamHead.{RefusesHead}
use Rattle.a429_cert.specs.StreamExplained.{compared, WhereBothKnown, WantsNext, IsHeardBefore, HearsBefore}
use Rattle.a429_cert.specs.Report.{listening, position, Hearing, reports_of_run}
use Rattle.a429_cert.proofs.EarlierFiles.{given_out}
use Rattle.a429_cert.proofs.StreamStands.{Stands}
use Rattle.a429_cert.proofs.StreamRefused.{fault_here, left_here, wants_line, wants_end}
use Rattle.a429_cert.proofs.ReportFacts.{Hears, both_known_with}

module _ {T : Type 0} (hears : Hearing T) (p : Contents) where
  -- ---- the first two lines are refused

  pub heard_head : (known old : Option (List ℕ)) (rec : Option Recording) (f : StreamFault) (l : T)
      → old ≡ known → RefusesHead IsFaultOfHead old f → HearsBefore (listening hears l l) (compared p known rec) f
  heard_head None old rec (stream.Cert f) l e h = tt
  heard_head (Some text) old None (stream.Cert f) l e h = tt
  heard_head (Some text) old (Some r) (stream.Cert f) l e h =
      record { reports = []; before = inl (subst (λ o. RefusesHead IsFaultOfHead o (stream.Cert f)) e h, refl); heard = refl }
  heard_head known old rec (stream.Read f) l e h = absurd h
  heard_head known old rec stream.Device l e h = tt
  heard_head known old rec stream.OutOfMemory l e h = tt

  -- ---- a fault where a replay is

  module _ (d : Head) (k i : ℕ) (taken : List FileBytes) (s : State) (left : Option (List ℕ)) (rec : Option Recording) (old now : T) where
    later : (f : CertFault) (text : List ℕ) (r : Recording)
        → IsFaultAt p (with_earlier taken s) (at_line (k + 3) i (slice_get (items_of r.entries) i))
        (slice_get (step_lines d.version text) k) f
        → Stands p text r d k i taken s left rec → Hears hears p d.first (step_lines d.version text) r k i (with_earlier taken s) old now
        → IsHeardBefore (listening hears old now) p (stream.Cert f) text r
    later f text r g h b =
        record {
          reports = reports_of_run p r.entries d.first b.reached.steps;
          before = inr (
            record {
              head = d;
              says = h.says;
              k = k;
              i = i;
              inside = h.inside;
              state = with_earlier taken s;
              before = b.reached;
              fault = g;
            },
            refl,
          );
          heard = b.heard;
        }

    stopped : (f : ReadFault) (text : List ℕ) (r : Recording) → s.sink.received.files ≡ []
        → WantsNext p (slice_get (step_lines d.version text) k) (with_earlier taken s) → Stops f (left_after i r) → f ≢ read.OutOfMemory
        → Stands p text r d k i taken s left rec → Hears hears p d.first (step_lines d.version text) r k i (with_earlier taken s) old now
        → IsHeardBefore (listening hears old now) p (stream.Read f) text r
    stopped f text r none wants stops memory h b =
        record {
          reports = reports_of_run p r.entries d.first b.reached.steps;
          before = (
            taken,
            record {
              k = k;
              i = i;
              state = with_earlier taken s;
              before = record { head = d; says = h.says; inside = h.inside; before = b.reached; gives = given_out taken s none };
              wants = wants;
              fault = stops;
              reports = memory;
            },
            refl,
          );
          heard = b.heard;
        }

    -- ---- where both are told

    module _ (known : Option (List ℕ)) (start : Option Recording) where
      abbrev IsThere : List ℕ → Recording → Type 0
      IsThere text r = Stands p text r d k i taken s left rec

      abbrev HasHeard : List ℕ → Recording → Type 0
      HasHeard text r = Hears hears p d.first (step_lines d.version text) r k i (with_earlier taken s) old now

      -- the line that comes is refused
      pub heard_refused : (held more : Option (List ℕ)) (n : ℕ) (f : StreamFault) (new : T)
          → n ≡ k + 3 → s.sink.received.files ≡ [] → GivesLine left more held true
          → RefusesOver p (read_as d.version held) (position s rec i) n f → IsUnreported now new f → WhereBothKnown known start IsThere
          → WhereBothKnown known start HasHeard → HearsBefore (listening hears old new) (compared p known start) f
      heard_refused held more n (stream.Cert f) new e none g m u =
          both_known_with known start IsThere HasHeard (IsHeardBefore (listening hears old new) p (stream.Cert f))
          (λ text r h b.
          let here =
          subst (λ (j : ℕ). RefusesOver p (read_as d.version held) (position s (Some (left_after i r)) i) j (stream.Cert f)) e
          (subst (λ o. RefusesOver p (read_as d.version held) (position s o i) n (stream.Cert f)) h.rest m) in
          subst (λ (t : T). IsHeardBefore (listening hears old t) p (stream.Cert f) text r) (sym u)
          (later f text r (fault_here p d k i taken s held left more rec f text r g here.0 h) h b))
      heard_refused held more n (stream.Read f) new e none g m u =
          both_known_with known start IsThere HasHeard (IsHeardBefore (listening hears old new) p (stream.Read f))
          (λ text r h b.
          let here = subst (λ o. RefusesOver p (read_as d.version held) (position s o i) n (stream.Read f)) h.rest m in
          subst (λ (t : T). IsHeardBefore (listening hears old t) p (stream.Read f) text r) (sym u)
          (stopped f text r none
          (wants_line p d.version k taken s held left more (drop 2 (certificate_lines text)) g h.lines here.0) here.1 here.2 h b))
      heard_refused held more n stream.Device new e none g m u = λ a b. tt
      heard_refused held more n stream.OutOfMemory new e none g m u = λ a b. tt

      -- an entry is left behind the last line
      pub heard_unfinished : (held more : Option (List ℕ)) (item : Entry) (new_rec : Option Recording)
          → GivesLine left more held false → GivesNext rec new_rec (Ok (Some item))
          → WhereBothKnown known start IsThere → WhereBothKnown known start HasHeard
          → HearsBefore (listening hears old now) (compared p known start) (stream.Cert (of.Unfinished i))
      heard_unfinished held more item new_rec g e =
          both_known_with known start IsThere HasHeard (IsHeardBefore (listening hears old now) p (stream.Cert (of.Unfinished i)))
          (λ text r h b. later (of.Unfinished i) text r (left_here p d k i taken s held left more rec item new_rec text r g
          (subst (λ o. GivesNext o new_rec (Ok (Some item))) h.rest e) h) h b)

      -- the recording has a fault there
      pub heard_stopped : (held more : Option (List ℕ)) (f : ReadFault) (new_rec : Option Recording)
          → s.sink.received.files ≡ [] → GivesLine left more held false → GivesNext rec new_rec (Err f)
          → WhereBothKnown known start IsThere → WhereBothKnown known start HasHeard
          → HearsBefore (listening hears old now) (compared p known start) (of_read f)
      heard_stopped held more f new_rec none g e a b = by f e
        where
          here : (f : ReadFault) → f ≢ read.OutOfMemory → GivesNext rec new_rec (Err f)
              → WhereBothKnown known start (IsHeardBefore (listening hears old now) p (stream.Read f))
          here f memory e =
              both_known_with known start IsThere HasHeard (IsHeardBefore (listening hears old now) p (stream.Read f))
              (λ text r h b.
              stopped f text r none (wants_end p d.version k taken s held left more (drop 2 (certificate_lines text)) g h.lines)
              (subst (λ o. GivesNext o new_rec (Err f)) h.rest e) memory h b) a b

          by : (f : ReadFault) → GivesNext rec new_rec (Err f) → HearsBefore (listening hears old now) (compared p known start) (of_read f)
          by read.Header e = here read.Header (λ z. cc) e
          by (read.Row n) e = here (read.Row n) (λ z. cc) e
          by (read.TimeBack n) e = here (read.TimeBack n) (λ z. cc) e
          by read.TooMany e = here read.TooMany (λ z. cc) e
          by read.Device e = here read.Device (λ z. cc) e
          by read.OutOfMemory e = tt
          by read.Failed e = here read.Failed (λ z. cc) e

  -- a fault of a device, or for want of memory, says nothing
  pub heard_nothing : (known : Option (List ℕ)) (rec : Option Recording) (old new : T) (f : StreamFault)
      → (f ≡ stream.Device) ⊎ (f ≡ stream.OutOfMemory) → HearsBefore (listening hears old new) (compared p known rec) f
  heard_nothing known rec old new stream.Device e = tt
  heard_nothing known rec old new stream.OutOfMemory e = tt
  heard_nothing known rec old new (stream.Cert f) (inl e) = absurd (cc e)
  heard_nothing known rec old new (stream.Cert f) (inr e) = absurd (cc e)
  heard_nothing known rec old new (stream.Read f) (inl e) = absurd (cc e)
  heard_nothing known rec old new (stream.Read f) (inr e) = absurd (cc e)
