-- A verdict, and what its entry is held against.
use Rattle.std.proofs.Common.{◌≡◌, List, ℕ, Option, Result, Ok, Err, IfOk, IfErr, Bool, sym, subst}
use Rattle.a429_profile.specs.Profile.{Contents}
use Rattle.a429_record.specs.declared.entry.Entry.{Entry}
use Rattle.a429_cert.specs.Explained.{items_of}
use Rattle.a429_commands.specs.declared.fault.RunFault.{RunFault}
use Rattle.a429_commands.specs.declared.fault.RunFault.TheVariants as run
use Rattle.a429_commands.specs.declared.engines.why.Answer.{Answer}
use Rattle.a429_commands.specs.Ends.{Heard, unheard_causes}
use Rattle.a429_commands.specs.Fault.{ComesBy}
use Rattle.a429_commands.specs.Profile.{IsProfileOf}
use Rattle.a429_commands.specs.Recording.{IsReadFault, SaysEntries, read_causes}
use Rattle.a429_commands.specs.Why.{IsAnswerBy, IsAnswerOn, IsAnswerUnder}
use Rattle.a429_commands.proofs.FaultFacts.{comes_by}

-- ---- under a profile that was read

pub on : (profile : List ℕ) (p : Contents) (known : Option (List ℕ)) (r : Result Answer RunFault)
    → IsProfileOf profile p → IfOk r (IsAnswerUnder p known) → IfOk r (IsAnswerOn profile known)
on profile p known (Ok a) is h = (record { contents = p; entries = h.0; is_profile = is; stand = h.1 }, h.2)
on profile p known (Err e) is h = tt

pub not_under : (profile : List ℕ) (p : Contents) (rec : Heard) (r : Result Answer RunFault)
    → IsProfileOf profile p → IfErr r (IsReadFault rec.bytes rec.failed) → IfErr r (ComesBy (unheard_causes profile rec))
not_under profile p rec (Ok a) is h = tt
not_under profile p rec (Err e) is h = comes_by (read_causes rec.bytes rec.failed) (unheard_causes profile rec)
    (record {
      profile = λ f h. absurd h;
      recording = λ f h. ((p, is), h);
      file = λ k f h. absurd h;
      too_long = λ h. absurd h;
      no_place = λ h. absurd h;
      device = λ h. ((p, is), h);
      memory = λ h. is.0;
    }) e h

-- of these entries
pub under : (p : Contents) (known : Option (List ℕ)) (es slice : List Entry) (r : Result Answer RunFault)
    → SaysEntries known es → slice ≡ es → IfOk r (IsAnswerBy p (items_of slice)) → IfOk r (IsAnswerUnder p known)
under p known es slice (Ok a) says same by = (es, says, subst (λ (xs : List Entry). IsAnswerBy p (items_of xs) a) same by)
under p known es slice (Err e) says same by = tt

pub of_memory : (known : Option (List ℕ)) (rec : Bool) (r : Result Answer RunFault)
    → IfErr r (λ e. e ≡ run.Memory) → IfErr r (IsReadFault known rec)
of_memory known rec (Ok a) h = tt
of_memory known rec (Err e) h = subst (IsReadFault known rec) (sym h) tt
