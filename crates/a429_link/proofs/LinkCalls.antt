-- Files that are taken while a run goes on.
use Rattle.std.proofs.Common.{◌≡◌, ◌↔◌, ℕ, List, [], ◌∷◌, ◌++◌, sym, ap, ◌∙◌, subst, append_assoc, append-nil}
use Rattle.a429_profile.specs.Profile.{Contents}
use Rattle.a429_link.specs.declared.file.FileBytes.{FileBytes}
use Rattle.a429_link.specs.Link.{Call, Applied, Taken, AreMade, applied, left_by, taken, handed_out, with_earlier}
use Rattle.a429_link.specs.Run.{IsRun, delivered, end_of}
use Rattle.a429_link.specs.Step.{after}
use Rattle.a429_link.specs.State.{start, State}
use Rattle.a429_link.proofs.LinkKept.{after_earlier, can_earlier, can_later}

-- files that are handed out are earlier ones
pub handed_earlier : (files : List FileBytes) (s : State)
    → with_earlier (files ++ s.sink.received.files) (handed_out s) ≡ with_earlier files s
handed_earlier files s = ap (λ (l : List FileBytes). filed l) (append-nil (files ++ s.sink.received.files))
  where
    filed : List FileBytes → State
    filed l = record s { sink = record (s.sink) { received = record (s.sink.received) { files = l } } }

-- behind earlier files
ends : (p : Contents) (calls : List Call) (files : List FileBytes) (s : State)
    → with_earlier (files ++ taken p calls s) (left_by p calls s) ≡ end_of p (applied calls) (with_earlier files s)
ends p [] files s = ap (λ (l : List FileBytes). with_earlier l s) (append-nil files)
ends p (Applied a ∷ calls) files s = ends p calls files (after p a s) ∙ ap (end_of p (applied calls)) (sym (after_earlier p a files s))
ends p (Taken ∷ calls) files s =
    ap (λ (l : List FileBytes). with_earlier l (left_by p calls (handed_out s)))
    (sym (append_assoc files s.sink.received.files (taken p calls (handed_out s))))
    ∙ ends p calls (files ++ s.sink.received.files) (handed_out s)
    ∙ ap (end_of p (applied calls)) (handed_earlier files s)

runs : (p : Contents) (calls : List Call) (files : List FileBytes) (s : State)
    → AreMade p calls s → IsRun p (applied calls) (with_earlier files s)
runs p [] files s h = tt
runs p (Applied a ∷ calls) files s h =
    (can_earlier p a files s h.0, subst (IsRun p (applied calls)) (sym (after_earlier p a files s)) (runs p calls files (after p a s) h.1))
runs p (Taken ∷ calls) files s h =
    subst (IsRun p (applied calls)) (handed_earlier files s) (runs p calls (files ++ s.sink.received.files) (handed_out s) h)

may_be : (p : Contents) (calls : List Call) (files : List FileBytes) (s : State)
    → IsRun p (applied calls) (with_earlier files s) → AreMade p calls s
may_be p [] files s h = tt
may_be p (Applied a ∷ calls) files s h =
    (can_later p a files s h.0, may_be p calls files (after p a s) (subst (IsRun p (applied calls)) (after_earlier p a files s) h.1))
may_be p (Taken ∷ calls) files s h =
    may_be p calls (files ++ s.sink.received.files) (handed_out s) (subst (IsRun p (applied calls)) (sym (handed_earlier files s)) h)

-- from the start
pub taken_state : (p : Contents) (first : ℕ) (calls : List Call)
    → with_earlier (taken p calls (start p first)) (left_by p calls (start p first)) ≡ end_of p (applied calls) (start p first)
taken_state p first calls = ends p calls [] (start p first)

pub taken_files : (p : Contents) (first : ℕ) (calls : List Call)
    → taken p calls (start p first) ++ (left_by p calls (start p first)).sink.received.files ≡ delivered p first (applied calls)
taken_files p first calls = ap (λ (s : State). s.sink.received.files) (taken_state p first calls)

pub taken_run : (p : Contents) (first : ℕ) (calls : List Call) → AreMade p calls (start p first) ↔ IsRun p (applied calls) (start p first)
taken_run p first calls = (runs p calls [] (start p first), may_be p calls [] (start p first))
