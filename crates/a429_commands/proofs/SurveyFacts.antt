-- What was counted of a recording, and why nothing was.
use Rattle.std.proofs.Common.{ℕ, List, Bool, Option}
use Rattle.a429_profile.specs.Profile.{Contents}
use Rattle.a429_record.specs.Recording.{Recording}
use Rattle.a429_view.specs.declared.survey.Survey.{Survey}
use Rattle.a429_view.specs.Survey.{text_of}
use Rattle.a429_view.proofs.SurveyFacts.{text_is}
use Rattle.a429_commands.specs.declared.fault.RunFault.{RunFault}
use Rattle.a429_commands.specs.Fault.{ComesBy}
use Rattle.a429_commands.specs.Profile.{IsProfileFault, IsProfileOf, profile_causes}
use Rattle.a429_commands.specs.Streaming.{IsNextFault, next_causes}
use Rattle.a429_commands.specs.Survey.{Counts, Surveys, survey_causes}
use Rattle.a429_commands.proofs.FaultFacts.{comes_by}

pub surveyed : (profile : List ℕ) (p : Contents) (rec : Option Recording) (s : Survey)
    → IsProfileOf profile p → Counts p.codes rec s → Surveys profile rec (text_of s)
surveyed profile p rec s is h =
    record { says = record { contents = p; entries = h.0; is_profile = is; stand = h.2 }; lines = text_is p.codes s h.0 h.1 }

-- the profile is one
pub uncounted : (profile : List ℕ) (p : Contents) (known : Option Recording) (failed : Bool) (e : RunFault)
    → IsProfileOf profile p → IsNextFault known failed e → ComesBy (survey_causes profile known failed) e
uncounted profile p known failed e is = comes_by (next_causes known failed) (survey_causes profile known failed)
    (record {
      profile = λ f h. absurd h;
      recording = λ f h. ((p, is), h);
      file = λ k f h. absurd h;
      too_long = λ h. absurd h;
      no_place = λ h. absurd h;
      device = λ h. ((p, is), h);
      memory = λ h. is.0;
    }) e

-- no profile, and so no counts
pub unprofiled : (profile : List ℕ) (known : Option Recording) (failed : Bool) (e : RunFault)
    → IsProfileFault profile e → ComesBy (survey_causes profile known failed) e
unprofiled profile known failed = comes_by (profile_causes profile) (survey_causes profile known failed)
    (record {
      profile = λ f h. h;
      recording = λ f h. absurd h;
      file = λ k f h. absurd h;
      too_long = λ h. absurd h;
      no_place = λ h. absurd h;
      device = λ h. absurd h;
      memory = λ h. h;
    })
