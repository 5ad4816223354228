-- How a command ends, by what it has read.
use Rattle.std.proofs.Common.{◌≡◌, ◌⊎◌, ℕ, List, Bool, true, false, Option, Result, Ok, Err, IfOk, IfErr, inl, inr, refl, sym, subst}
use Rattle.std.specs.Result.{OnOk}
use Rattle.a429_word.specs.Tally.{has_failed, Puts}
use Rattle.a429_profile.specs.Profile.{Contents}
use Rattle.a429_record.specs.Recording.{Recording}
use Rattle.a429_parts.specs.Keeping.{Taken}
use Rattle.a429_commands.specs.declared.fault.RunFault.{RunFault}
use Rattle.a429_commands.specs.declared.fault.RunFault.TheVariants as run
use Rattle.a429_commands.specs.Ends.{Ends, Promise, answered, cut_off, by_answer, of_read, of_stream, refused, stopped, under}
use Rattle.a429_commands.specs.Output.{Output}
use Rattle.a429_commands.specs.Profile.{IsProfileOf}
use Rattle.a429_commands.specs.Streaming.{IsLinesFault, IsNextFault, lines_causes, next_causes}
use Rattle.a429_commands.proofs.FaultFacts.{comes_by}

-- what ends by one promise ends by a weaker one
pub ends_as : {W : Type 0} {o : Output W} {r : Result ℕ RunFault} (p q : Promise)
    → ((status : ℕ) (text : List ℕ) → p.says status text → q.says status text)
    → ((e : RunFault) (text : List ℕ) → p.stops e text → q.stops e text)
    → ((text : List ℕ) → p.begins text → q.begins text) → ((e : RunFault) → p.refuses e → q.refuses e) → Ends o p r → Ends o q r
ends_as p q says stops begins refuses (answered status text is here works put) = answered status text is (says status text here) works put
ends_as p q says stops begins refuses (stopped e text is here works put) = stopped e text is (stops e text here) works put
ends_as p q says stops begins refuses (cut_off text is here failed front) = cut_off text is (begins text here) failed front
ends_as p q says stops begins refuses (refused e is here same) = refused e is (refuses e here) same

-- the text of its answer was written, all of it
pub by_text : {W : Type 0} {o : Output W} (p : Promise) (r : Result ℕ RunFault) (text : List ℕ)
    → by_answer p.says p.stops r text → has_failed o.new ≡ false → Puts o.contents o.old o.new text → Ends o p r
by_text p (Ok status) text here works put = answered status text refl here works put
by_text p (Err e) text here works put = stopped e text refl here works put

-- a text is as promised: what it says, what it begins with, and that memory may be refused
pub record Bears (p : Promise) (IsText : ℕ → List ℕ → Type 0) (IsBegun : List ℕ → Type 0) (NoRoom : Type 0) : Type 0 where
  pub says : (status : ℕ) (text : List ℕ) → IsText status text → p.says status text
  pub begins : (text : List ℕ) → IsBegun text → p.begins text
  pub no_room : NoRoom → p.refuses run.Memory

-- a command ends as promised where its text is, and the promise has the faults of reading
pub ends : {T W : Type 0} {Such : T → Type 0} {says : T → ℕ → List ℕ → Type 0} {begins : T → List ℕ → Type 0} {NoRoom : Type 0}
    {o : Output W} (p : Promise) (read : Result T RunFault) {r : Result ℕ RunFault}
    → IfOk read Such → ((x : T) → Such x → Bears p (says x) (begins x) NoRoom) → IfErr read p.refuses
    → Ends o (of_read says begins NoRoom read) r → Ends o p r
ends p (Ok x) such bears why (answered status text is here works put) =
    answered status text is ((bears x such).says status text here) works put
ends p (Ok x) such bears why (stopped e text is here works put) = absurd here
ends p (Ok x) such bears why (cut_off text is here failed front) = cut_off text is ((bears x such).begins text here) failed front
ends p (Ok x) such bears why (refused e is here same) = refused e is (subst p.refuses (sym here.0) ((bears x such).no_room here.1)) same
ends p (Err f) such bears why (answered status text is here works put) = absurd here
ends p (Err f) such bears why (stopped e text is here works put) = absurd here
ends p (Err f) such bears why (cut_off text is here failed front) = absurd here
ends p (Err f) such bears why (refused e is here same) = refused e is (subst p.refuses (sym here) why) same

pub and_on : {T E : Type 0} (P : T → Type 0) (Q : Type 0) (r : Result T E) → IfOk r P → OnOk r Q → IfOk r (λ x. P x × Q)
and_on P Q (Ok x) here works = (here, works)
and_on P Q (Err e) here works = tt

-- what holds of a fault of reading, and of a failed output, holds of the command's fault
pub at_fault : {T W : Type 0} {o : Output W} (P : RunFault → Type 0) (says : T → ℕ → List ℕ → Type 0) (begins : T → List ℕ → Type 0)
    (read : Result T RunFault) (r : Result ℕ RunFault)
    → IfErr read P → IfOk read (λ _. P run.Device) → Ends o (of_read says begins ⊥ read) r → IfErr r P
at_fault P says begins (Ok x) r why device (answered status text is here works put) = rw is tt
at_fault P says begins (Ok x) r why device (stopped e text is here works put) = absurd here
at_fault P says begins (Ok x) r why device (cut_off text is here failed front) = rw is device
at_fault P says begins (Ok x) r why device (refused e is here same) = absurd here.1
at_fault P says begins (Err f) r why device (answered status text is here works put) = absurd here
at_fault P says begins (Err f) r why device (stopped e text is here works put) = absurd here
at_fault P says begins (Err f) r why device (cut_off text is here failed front) = absurd here
at_fault P says begins (Err f) r why device (refused e is here same) = rw is (subst P (sym here) why)

-- ---- a recording that is read while the text is written

only_reader : (rec out : Bool) → (rec ≡ true) ⊎ (out ≡ true) → out ≡ false → rec ≡ true
only_reader rec out (inl h) works = h
only_reader rec out (inr h) works = absurd (cc (h, works))

-- where the output works, the fault is one of reading
next : (known : Option Recording) (rec out : Bool) (e : RunFault) → IsLinesFault known rec out e → out ≡ false → IsNextFault known rec e
next known rec out e h works = comes_by (lines_causes known rec out) (next_causes known rec)
    (record {
      profile = λ f h. h;
      recording = λ f h. h;
      file = λ k f h. h;
      too_long = λ h. h;
      no_place = λ h. h;
      device = λ h. only_reader rec out h works;
      memory = λ h. h;
    }) e h

module _ (Says : Contents → Taken → ℕ → List ℕ → Type 0) (Stops : Contents → Taken → RunFault → List ℕ → Type 0)
    (Begins : Contents → Taken → List ℕ → Type 0) (p : Contents) (t : Taken) (failed : Bool) where
  -- the text of its answer was written
  pub written : {W : Type 0} {o : Output W} (out : Bool) (r : Result ℕ RunFault) (text : List ℕ)
      → by_answer (Says p t) (Stops p t) r text → IfOk r (λ status. status ≡ 0 → failed ≡ false)
      → IfErr r (IsLinesFault t.recording failed out) → out ≡ false → has_failed o.new ≡ false → Puts o.contents o.old o.new text
      → Ends o (under p t failed Says Stops Begins) r
  written out (Ok status) text here works why out_works done put = answered status text refl (here, works) done put
  written out (Err e) text here works why out_works done put =
      stopped e text refl (here, next t.recording failed out e why out_works) done put

  -- by the bytes of the profile
  pub ends_under : {W : Type 0} {o : Output W} {r : Result ℕ RunFault} (profile : List ℕ)
      → IsProfileOf profile p → Ends o (under p t failed Says Stops Begins) r → Ends o (of_stream profile t failed Says Stops Begins) r
  ends_under profile is (answered status text e here works put) = answered status text e ((p, is, here.0), here.1) works put
  ends_under profile is (stopped e text same here works put) = stopped e text same ((p, is, here.0), here.1) works put
  ends_under profile is (cut_off text e here failed front) = cut_off text e (p, is, here) failed front
  ends_under profile is (refused e same here nothing) = absurd here
