-- What a command that finds a certificate has written, once a verdict was found.
use Rattle.std.proofs.Common.{◌≡◌, inl, List, ℕ, Option, Some, Result, Ok, Err, IfOk, IfErr, Bool, true, refl, sym, subst}
use Rattle.std.specs.Prelude.{IsErr, ◌↔◌}
use Rattle.std.specs.Result.{OnOk, OnErr}
use Rattle.std.proofs.lemmas.Bool.{false_from_ne_true}
use Rattle.a429_word.specs.Sheet.{Writes}
use Rattle.a429_word.specs.Tally.{has_failed}
use Rattle.a429_link.specs.declared.seen.Seen.{Seen}
use Rattle.a429_profile.specs.Profile.{Contents}
use Rattle.a429_cert.specs.declared.fault.OutOfMemory.{OutOfMemory}
use Rattle.a429_explain.specs.declared.verdict.Verdict.{Verdict}
use Rattle.a429_explain.specs.declared.verdict.Reason.{Reason}
use Rattle.a429_search.specs.declared.deciding.Decision.{Decision}
use Rattle.a429_search.specs.Deciding.{IsExact, IsImpossibleBy, IsImpossibleUpTo, IsOfCheck, IsReasonAt}
use Rattle.a429_explain.specs.Verdict.{IsFirst, IsSoundVerdict, IsAccepted, IsOfLeastVersion, IsImpossible, IsDoubted, HasNoForm, IsImpossibility, IsExplanation}
use Rattle.a429_explain.specs.WithoutLoss.{IsWithoutLoss}
use Rattle.a429_commands.specs.declared.fault.RunFault.{RunFault}
use Rattle.a429_commands.specs.declared.fault.RunFault.TheVariants as run
use Rattle.a429_commands.specs.Ends.{EndsWithFile, HasGained, Heard, IsBrokenOff, after_file, in_file, unheard_causes}
use Rattle.a429_commands.specs.Fault.{ComesBy}
use Rattle.a429_commands.specs.Output.{Output}
use Rattle.a429_record.specs.declared.entry.Entry.{Entry}
use Rattle.a429_cert.specs.Explained.{items_of}
use Rattle.a429_commands.specs.Profile.{IsProfileOf}
use Rattle.a429_commands.specs.Recording.{IsReadFault, SaysEntries, read_causes}
use Rattle.a429_commands.specs.declared.engines.rule.Rule.{Rule}
use Rattle.a429_commands.specs.declared.engines.rule.Rule.TheVariants as rule
use Rattle.a429_commands.specs.declared.engines.check.Told.{Told}
use Rattle.a429_commands.specs.Check.{IsByRule, IsToldBy, IsToldOn, IsToldUnder, IsVerdictBy, TellsVerdict, of_told}
use Rattle.a429_commands.proofs.EndsFacts.{ends_as}
use Rattle.a429_commands.proofs.FaultFacts.{comes_by}

-- what the library's call says of its verdict, as one
pub found : {X : Type 0} (by_rule : Rule) (p : Contents) (items : List Seen) (verdict : X → Verdict) (r : Result X OutOfMemory)
    → IfOk r (λ x. IsSoundVerdict p items (verdict x)) → IfOk r (λ x. IsAccepted p items (verdict x))
    → IfOk r (λ x. IsOfLeastVersion p items (verdict x)) → IfOk r (λ x. IsDoubted p items (verdict x))
    → IfOk r (λ x. IsByRule by_rule p items (verdict x)) → (HasNoForm p.codes items → IfOk r (λ x. IsImpossibility (verdict x)))
    → (IsWithoutLoss p items → IfOk r (λ x. IsExplanation (verdict x))) → IfOk r (λ x. IsVerdictBy by_rule p items (verdict x))
found by_rule p items verdict (Ok x) sound accepted version doubted first no_form without_loss =
    record {
      sound = sound;
      accepted = accepted;
      version = version;
      doubted = doubted;
      first = first;
      no_form = no_form;
      without_loss = without_loss;
    }
found by_rule p items verdict (Err e) sound accepted version doubted first no_form without_loss = tt

-- by the rule of `check`, and by that of `decide`
pub checked : (p : Contents) (items : List Seen) (r : Result Verdict OutOfMemory)
    → IfOk r (IsFirst p items) → IfOk r (IsImpossible p items) → IfOk r (IsByRule rule.Check p items)
checked p items (Ok v) first impossible = (first, impossible)
checked p items (Err e) first impossible = tt

pub decided : (p : Contents) (items : List Seen) (r : Result Decision OutOfMemory)
    → IfOk r (λ d. IsExact p items d.cut d.verdict) → IfOk r (λ d. IsOfCheck p items d.verdict) → IfOk r (λ d. IsImpossibleBy p items d.verdict)
    → ((i : ℕ) (reason : Reason) → IsReasonAt p items i reason → IfOk r (λ d. IsImpossibleUpTo i d.verdict))
    → IfOk r (λ d. IsByRule rule.Decide p items d.verdict)
decided p items (Ok d) exact of_check impossible first =
    record { of_check = of_check; cut = d.cut; exact = exact; impossible = impossible; first = first }
decided p items (Err e) exact of_check impossible first = tt

-- ---- what is written

-- by a writer that fails where it says so, the file has gained its text; or it was broken off
pub gained : {C T E : Type 0} (c : Output C) (text : List ℕ) (r : Result T E)
    → Writes c.contents c.old c.new text → (IsErr r ↔ (has_failed c.new ≡ true)) → OnOk r (HasGained c (Some text))
gained c text (Ok x) written device =
    let works = false_from_ne_true (has_failed c.new) (λ failed. absurd (cc (device.1 failed))) in (works, written.all works)
gained c text (Err e) written device = tt

pub broken : {C T E : Type 0} (c : Output C) (text : List ℕ) (r : Result T E) → Writes c.contents c.old c.new text
    → (IsErr r ↔ (has_failed c.new ≡ true)) → OnErr r ((t : List ℕ) × (Some text ≡ Some t) × IsBrokenOff c ⊥ t)
broken c text (Ok x) written device = tt
broken c text (Err e) written device = (text, refl, record { why = inl (device.0 refl); front = written.prefix })

-- what is written of one verdict is written of one that is such
module _ (v : Told) (IsSuch : Told → Type 0) (Refuses : RunFault → Type 0) (such : IsSuch v) (memory : Refuses run.Memory) where
  tells : (certificate : Option (List ℕ)) (status : ℕ) (text : List ℕ)
      → TellsVerdict (λ w. w ≡ v) certificate status text → TellsVerdict IsSuch certificate status text
  tells certificate status text h = record {
    told = h.told;
    is = subst IsSuch (sym h.is) such;
    certificate_is = h.certificate_is;
    status_is = h.status_is;
    text_is = h.text_is;
  }

  pub of_one : {C W : Type 0} {c : Output C} {o : Output W} {r : Result ℕ RunFault}
      → EndsWithFile c o (of_told (λ w. w ≡ v) (λ e. e ≡ run.Memory)) r → EndsWithFile c o (of_told IsSuch Refuses) r
  of_one (after_file certificate has ends) =
      after_file certificate has
      (ends_as ((of_told (λ w. w ≡ v) (λ e. e ≡ run.Memory)).after certificate) ((of_told IsSuch Refuses).after certificate)
      (tells certificate) (λ e text never. never) (λ text h. (h.0, tells certificate h.0 text h.1))
      (λ e h. (h.0, subst Refuses (sym h.1) memory)) ends)
  of_one (in_file text is breaks off same) = in_file text is (breaks.0, subst IsSuch (sym breaks.1) such, breaks.2) off same

-- ---- under a profile that was read

pub on : (by_rule : Rule) (profile : List ℕ) (p : Contents) (known : Option (List ℕ)) (r : Result Told RunFault)
    → IsProfileOf profile p → IfOk r (IsToldUnder by_rule p known) → IfOk r (IsToldOn by_rule profile known)
on by_rule profile p known (Ok v) is h = (record { contents = p; entries = h.0; is_profile = is; stand = h.1 }, h.2)
on by_rule profile p known (Err e) is h = tt

pub not_under : (profile : List ℕ) (p : Contents) (rec : Heard) (r : Result Told RunFault)
    → IsProfileOf profile p → IfErr r (IsReadFault rec.bytes rec.failed) → IfErr r (ComesBy (unheard_causes profile rec))
not_under profile p rec (Ok v) is h = tt
not_under profile p rec (Err e) is h = comes_by (read_causes rec.bytes rec.failed) (unheard_causes profile rec)
    (record {
      profile = λ f h. absurd h;
      recording = λ f h. ((p, is), h);
      file = λ k f h. absurd h;
      too_long = λ h. absurd h;
      no_place = λ h. absurd h;
      device = λ h. ((p, is), h);
      memory = λ h. is.0;
    }) e h

-- of these entries
pub under : (by_rule : Rule) (p : Contents) (known : Option (List ℕ)) (es slice : List Entry) (a : Result Told OutOfMemory)
    (r : Result Told RunFault) → SaysEntries known es → slice ≡ es
    → IfOk a (IsToldBy by_rule p (items_of slice)) → IfOk r (λ v. a ≡ Ok v) → IfOk r (IsToldUnder by_rule p known)
under by_rule p known es slice a (Ok v) says same by is = (
  es,
  says,
  subst (λ (xs : List Entry). IsToldBy by_rule p (items_of xs) v) same
      (subst (λ (x : Result Told OutOfMemory). IfOk x (IsToldBy by_rule p (items_of slice))) is by),
)
under by_rule p known es slice a (Err e) says same by is = tt

pub of_memory : (known : Option (List ℕ)) (rec : Bool) (r : Result Told RunFault)
    → IfErr r (λ e. e ≡ run.Memory) → IfErr r (IsReadFault known rec)
of_memory known rec (Ok v) h = tt
of_memory known rec (Err e) h = subst (IsReadFault known rec) (sym h) tt
