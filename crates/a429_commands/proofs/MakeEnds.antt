-- How `make` ends.
use Rattle.std.proofs.Common.{◌≡◌, ◌∙◌, ◌++◌, ℕ, List, [], append-nil, Result, Ok, Err}
use Rattle.a429_commands.specs.declared.fault.RunFault.{RunFault}
use Rattle.a429_commands.specs.Fault.{ComesBy}
use Rattle.a429_commands.specs.Make.{AnswersRecording, IsFilesFault, files_causes, make_causes}
use Rattle.a429_commands.specs.Profile.{IsProfileFault, IsSomeProfile, profile_causes}
use Rattle.a429_commands.proofs.FaultFacts.{comes_by}

-- a fault of the profile
pub unprofiled : (profile : List ℕ) (files : List (List ℕ)) (e : RunFault)
    → IsProfileFault profile e → ComesBy (make_causes profile files) e
unprofiled profile files = comes_by (profile_causes profile) (make_causes profile files)
    (record {
      profile = λ f h. h;
      recording = λ f h. absurd h;
      file = λ k f h. absurd h;
      too_long = λ h. absurd h;
      no_place = λ h. absurd h;
      device = λ h. absurd h;
      memory = λ h. h;
    })

-- a fault of the files
pub unmade : (profile : List ℕ) (files : List (List ℕ)) (e : RunFault)
    → IsSomeProfile profile → IsFilesFault files e → ComesBy (make_causes profile files) e
unmade profile files e sound = comes_by (files_causes files) (make_causes profile files)
    (record {
      profile = λ f h. absurd h;
      recording = λ f h. (sound, h.0, h.1);
      file = λ k f h. (sound, h);
      too_long = λ h. absurd h;
      no_place = λ h. absurd h;
      device = λ h. absurd h;
      memory = λ h. absurd h;
    }) e

-- what was put is a prefix of the whole
pub prefix_by : (whole : List ℕ) (r : Result ℕ RunFault) (text : List ℕ)
    → AnswersRecording whole r text → (rest : List ℕ) × (text ++ rest ≡ whole)
prefix_by whole (Ok status) text h = ([], append-nil text ∙ h.1)
prefix_by whole (Err e) text h = h.1
