-- What the scribe writes: the text of a certificate, line by line, and the steps of each entry where nothing is lost on
-- the way (profile).
use Rattle.std.specs.Prelude.{◌≡◌, ◌≤◌, ◌<◌, ℕ, Bool, true, List, [], ◌∷◌, ◌++◌, if◌then◌else◌, map, replicate, Option, Some, None, Result, IfErr, IsSome, OnOk}
use Rattle.std.specs.List.{AllByRecursion}
use Rattle.a429_link.specs.declared.seen.Seen.{Seen}
use Rattle.a429_link.specs.declared.step.Step.{Step}
use Rattle.a429_link.specs.declared.step.Step.TheVariants as step
use Rattle.a429_link.specs.declared.fault.StepFault.{StepFault}
use Rattle.a429_link.specs.declared.fault.StepFault.TheVariants.{OutOfMemory}
use Rattle.a429_link.specs.declared.carry.NextWord.{NextWord}
use Rattle.a429_link.specs.Carry.{IsAtWord}
use Rattle.a429_link.specs.Sink.{Listens}
use Rattle.a429_link.specs.Source.{IsIdle}
use Rattle.a429_link.specs.State.{start}
use Rattle.a429_link.specs.Run.{IsRun, end_of, trace}
use Rattle.a429_link.specs.Link.{LinkValue}
use Rattle.a429_cert.specs.Change.{Change}
use Rattle.a429_cert.specs.declared.line.CertLine.TheVariants.{First}
use Rattle.a429_cert.specs.Line.{spelling}
use Rattle.a429_cert.specs.Version.{gives_up}
use Rattle.a429_cert.specs.Explained.{ListsSteps}
use Rattle.a429_explain.specs.declared.attempts.Role.{Role}
use Rattle.a429_explain.specs.declared.attempts.Role.TheVariants.{Free, Request, Clear, OfBlock, Acknowledged, Refused}
use Rattle.a429_explain.specs.declared.plan.Plan.{Plan}
use Rattle.a429_explain.specs.declared.scribe.Scribe.{Scribe}

-- ---- the text

-- the text of these lines, each with a line feed before it
abbrev pub lines_text : List (List ℕ) → List ℕ
lines_text [] = []
lines_text (line ∷ lines) = 10 ∷ (line ++ lines_text lines)

-- the text is that of a certificate of a run that records these words and leads to the link's state, after its first line, and
-- `gave_up` says whether the run gives a file up
pub record HasWritten (first : ℕ) (items : List Seen) (text : List ℕ) (gave_up : Bool) (l : LinkValue) : Type 0 where
  pub byte : first ≤ 255
  pub lines : List (List ℕ)
  pub steps : List Step
  pub text_is : text ≡ lines_text (spelling (First first) ∷ lines)
  pub lists : ListsSteps l.profile (map (λ line. Some line) lines) steps (start l.profile first)
  pub used : trace steps ≡ items
  pub ends : l.state ≡ end_of l.profile steps (start l.profile first)
  pub gave_up_is : gave_up ≡ gives_up steps

-- words, and one after them where there is one
abbrev pub with_next : Option Seen → List Seen → List Seen
with_next None items = items
with_next (Some i) items = items ++ i ∷ []

-- a scribe has written a certificate of these words
abbrev pub Wrote : ℕ → List Seen → Scribe → Type 0
Wrote first items s = HasWritten first items s.lines s.gave_up s.link

-- where some words were written, one more is now where there is one
abbrev pub WritesNext : Option Seen → Scribe → Scribe → Type 0
WritesNext next s t = (first : ℕ) (items : List Seen) → Wrote first items s → Wrote first (with_next next items) t

-- the link after these steps
abbrev pub link_after : List Step → LinkValue → LinkValue
link_after steps l = record l { state = end_of l.profile steps l.state }

-- these steps can be made from here, one after the other
abbrev pub CanMake : List Step → LinkValue → Type 0
CanMake steps l = IsRun l.profile steps l.state

-- the only reason for a refusal is out of memory
abbrev pub OnlyLacksMemory : {X : Type 0} → Result X StepFault → Type 0
OnlyLacksMemory r = IfErr r (λ e. e ≡ OutOfMemory)

-- a word of the source is recorded, and the sink takes it
abbrev pub sent : Seen → List Step
sent i = step.Sent i ∷ (step.SinkTakes ∷ [])

-- an answer of the sink is recorded, and the source takes it
abbrev pub answered : Seen → List Step
answered i = step.Answered i ∷ (step.TakeAnswer ∷ [])

-- the source sends this data word of a block next, with nothing else on its way
abbrev pub IsReadyWord : LinkValue → NextWord → Type 0
IsReadyWord l next = IsAtWord l.profile next l.state × (next.place < 254)

-- the source is idle, and the sink owes no answer
abbrev pub IsAtRest : LinkValue → Type 0
IsAtRest l = IsIdle l.state.source.phase × Listens l.state.sink.phase

-- ---- the first request of a group: the source gives up the files of its plan, and loads its link data unit

abbrev pub giving_up : ℕ → List Step
giving_up files = replicate files step.GiveUp

-- at a request without a plan it goes on with the one that it has
abbrev pub begin_steps : Option Plan → List Step
begin_steps None = []
begin_steps (Some plan) = giving_up plan.give_ups ++ step.Load plan.unit ∷ []

-- ---- the steps of a request, whatever is lost on the way

-- what is left of a block is lost, the answer is left out that the sink owes, or the source no longer waits
abbrev pub IsClosing : Step → Type 0
IsClosing step.SentLost = Unit {0}
IsClosing step.Silent = Unit {0}
IsClosing step.TimeOut = Unit {0}
IsClosing _ = ⊥

-- such steps lead from the one link to the other
pub record Closes (l m : LinkValue) : Type 0 where
  pub steps : List Step
  pub closing : AllByRecursion IsClosing steps
  pub leads : m ≡ link_after steps l

-- where they led to the one, they lead to the other
abbrev pub ClosesOn : LinkValue → LinkValue → Type 0
ClosesOn l m = (k : LinkValue) → Closes k l → Closes k m

-- the attempt before a request is closed; the plan is carried out, where a group begins; and the request is sent
abbrev pub HasAsked : Role → Seen → Option Plan → LinkValue → LinkValue → Type 0
HasAsked (Request n start) i plan l m = (closed : LinkValue) × Closes l closed × (m ≡ link_after (begin_steps plan ++ sent i) closed)
HasAsked _ i plan l m = Unit {0}

-- ---- what an entry is refused for

-- an answer of the sink is recorded, and lost before the source hears it
abbrev pub unheard : Seen → List Step
unheard i = step.Answered i ∷ (step.LoseAnswer ∷ [])

-- the steps of an entry before which no word is lost and this plan is carried out
abbrev pub plain_steps : Role → Seen → Option Plan → List Step
plain_steps Free i plan = step.FreeSeen i ∷ []
plain_steps (Request n start) i plan = begin_steps plan ++ sent i
plain_steps OfBlock i plan = sent i
plain_steps (Clear used) i plan = if used then answered i else unheard i
plain_steps (Acknowledged ends) i plan = if ends then answered i else unheard i
plain_steps Refused i plan = answered i

-- the attempt before a request is closed
abbrev pub IsReady : Role → LinkValue → Type 0
IsReady (Request n start) l = IsAtRest l
IsReady _ l = Unit {0}

-- where the attempt before it is closed, the entry cannot be written without a loss
abbrev pub CannotWrite : Role → Seen → Option Plan → LinkValue → Type 0
CannotWrite role i plan l = IsReady role l → ¬ CanMake (plain_steps role i plan) l

-- ---- where nothing is lost on the way

-- the source takes each answer, and each request is the first one of its group
abbrev pub IsLossless : Role → Option Plan → Type 0
IsLossless (Request n start) plan = IsSome plan
IsLossless (Clear used) plan = used ≡ true
IsLossless (Acknowledged ends) plan = ends ≡ true
IsLossless _ plan = Unit {0}

-- the steps of an entry before which this plan is carried out
abbrev pub lossless_steps : Role → Seen → Option Plan → List Step
lossless_steps Free i plan = step.FreeSeen i ∷ []
lossless_steps (Request n start) i plan = begin_steps plan ++ sent i
lossless_steps OfBlock i plan = sent i
lossless_steps _ i plan = answered i

-- where nothing is lost on the way, and these steps can be made, they are, unless memory is refused
abbrev pub MakesLossless : {X : Type 0} → Role → Seen → Option Plan → Change LinkValue → Result X StepFault → Type 0
MakesLossless role i plan link r =
    IsLossless role plan
    → CanMake (lossless_steps role i plan) link.old
    → OnlyLacksMemory r × OnOk r (link.new ≡ link_after (lossless_steps role i plan) link.old)
