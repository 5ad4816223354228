-- The certificate of a guess, and why none is written (profile).
use Rattle.std.specs.Prelude.{◌≡◌, ◌<◌, ℕ, List, Some, take, length, slice_get}
use Rattle.a429_profile.specs.Profile.{Contents}
use Rattle.a429_link.specs.declared.seen.Seen.{Seen}
use Rattle.a429_link.specs.declared.step.Step.{Step}
use Rattle.a429_link.specs.State.{start}
use Rattle.a429_link.specs.Run.{IsRun, end_of, trace, BeginsARun}
use Rattle.a429_cert.specs.Version.{least_version}
use Rattle.a429_cert.specs.Explained.{Explains, IsExplained, AreInEveryRun}
use Rattle.a429_cert.specs.declared.fault.CertFault.{CertFault}
use Rattle.a429_cert.specs.Fault.{IsFirstCertFault}
use Rattle.a429_explain.specs.declared.attempts.Role.{Role}
use Rattle.a429_explain.specs.declared.guess.Guess.{Guess}
use Rattle.a429_explain.specs.Plan.{plan_for, plans_after}
use Rattle.a429_explain.specs.Scribe.{CannotWrite}
use Rattle.a429_explain.specs.declared.explanation.Explanation.{Explanation}
use Rattle.a429_explain.specs.declared.explanation.Refusal.{Refusal}
use Rattle.a429_explain.specs.declared.explanation.Refusal.TheVariants.{NotReplayed, OutOfMemory}

-- in the certificate there is no fault, so `verify` accepts it, unless it is out of memory
abbrev pub HasNoFault : Contents → List ℕ → List Seen → Type 0
HasNoFault p certificate items = (f : CertFault) → ¬ IsFirstCertFault p certificate items f

-- the certificate is of the least version that has all steps of its run: of version 2 exactly where one gives a file up
pub record HasLeastVersion (p : Contents) (certificate : List ℕ) (items : List Seen) : Type 0 where
  pub first : ℕ
  pub steps : List Step
  pub explains : Explains p certificate items first steps
  pub least : explains.version ≡ least_version steps

-- a certificate that lists a run of these words, without a fault and of the least version, and the files that every run that
-- records them delivers
pub record IsExplanationOf (p : Contents) (items : List Seen) (e : Explanation) : Type 0 where
  pub explained : IsExplained p e.certificate items e.files
  pub every : AreInEveryRun p items e.files
  pub accepted : HasNoFault p e.certificate items
  pub version : HasLeastVersion p e.certificate items

-- a run from the guess's first file records the entries before this one, and from where it leads this entry, in the role and
-- with the plan that the guess has for it, cannot be written
pub record IsRefusedAt (p : Contents) (items : List Seen) (g : Guess) (i : ℕ) : Type 0 where
  pub item : Seen
  pub is : slice_get items i ≡ Some item
  pub steps : List Step
  pub run : IsRun p steps (start p g.first_file)
  pub records : trace steps ≡ take i items
  pub role : Role
  pub role_is : slice_get g.roles.items i ≡ Some role
  pub cannot : CannotWrite role item (plan_for role i (plans_after (take i g.roles.items) 0 g.plans.items)) (record { profile = p; state = end_of p steps (start p g.first_file) })

-- some run records the entries before the one whose steps are refused, and the guess has no steps for it there
abbrev pub IsWhyNotWritten : Contents → List Seen → Guess → Refusal → Type 0
IsWhyNotWritten p items g (NotReplayed i) = (i < length items) × BeginsARun p (take i items) × IsRefusedAt p items g i
IsWhyNotWritten p items g OutOfMemory = Unit {0}
