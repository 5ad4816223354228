-- A step delivers at most one file.
use Rattle.std.proofs.Common.{◌≡◌, ◌≤◌, ◌++◌, ℕ, suc, Bool, true, false, cond, List, [], ◌∷◌, length, Option, Some, None, refl, ap, arith, length-append}
use Rattle.a429_word.specs.declared.bus.Bus.TheVariants as bus
use Rattle.a429_profile.specs.Profile.{Contents}
use Rattle.a429_profile.specs.declared.codes.Codes.{Codes}
use Rattle.a429_ldu.specs.declared.forms.Form.{Form}
use Rattle.a429_ldu.specs.declared.forms.Form.TheVariants as form
use Rattle.a429_ldu.specs.Carried.{bytes_in}
use Rattle.a429_ldu.specs.Form.{form_of}
use Rattle.a429_ldu.specs.Ldu.{is_final}
use Rattle.a429_link.specs.declared.file.FileBytes.{FileBytes}
use Rattle.a429_link.specs.declared.step.Step.{Step}
use Rattle.a429_link.specs.declared.step.Step.TheVariants.{Answered, FreeSeen, GiveUp, Load, LoseAnswer, Sent, SentLost, Silent, SinkTakes, TakeAnswer, TimeOut}
use Rattle.a429_link.specs.Sink.{Block, Granted, InBlock, OwesAck, OwesClear, OwesNak, Quiet, Received, Sink, SinkPhase, accepts, accepts_owed, answers_form, is_same, number_of, put, received_for, takes_first, takes_form}
use Rattle.a429_link.specs.State.{State}
use Rattle.a429_link.specs.Step.{after}
use Rattle.a429_link.proofs.ObserverBlock.{files_stay}
use Rattle.a429_link.proofs.SinkShelves.{received_for_files}

-- as many files as there were, or one more
abbrev OneMore : List FileBytes → List FileBytes → Type 0
OneMore old new = length new ≤ suc (length old)

none_more : (xs ys : List FileBytes) → ys ≡ xs → OneMore xs ys
none_more xs ys e = let n : length ys ≡ length xs = ap (λ (l : List FileBytes). length l) e in omega (arith, n)

put_one : (file : ℕ) (bytes : List ℕ) (t : Bool) (s : Received) → OneMore s.files (put file bytes t s).files
put_one file bytes true s = let n = length-append s.files (record { number = file; bytes = s.open_bytes ++ bytes } ∷ []) in omega (arith, n)
put_one file bytes false s = none_more s.files s.files refl

accepts_one : (c : Codes) (b : Block) (flags : ℕ) (k : Sink) → OneMore k.received.files (accepts c b flags k).received.files
accepts_one c b flags k = by (is_same k.last (number_of b))
  where
    received : Received
    received = received_for k.last b.file k.received

    by : (t : Bool)
        → OneMore k.received.files
        (cond t k (record k {
          last = Some (record { number = number_of b; final = is_final c flags });
          received = put b.file (bytes_in c b.words) (is_final c flags) received;
        })).received.files
    by true = none_more k.received.files k.received.files refl
    by false =
        let same : length received.files ≡ length k.received.files =
        ap (λ (l : List FileBytes). length l) (received_for_files k.last b.file k.received) in
        let one = put_one b.file (bytes_in c b.words) (is_final c flags) received in
        omega (arith, same, one)

owed_one : (c : Codes) (phase : SinkPhase) (k : Sink) → OneMore k.received.files (accepts_owed c phase k).received.files
owed_one c (OwesAck b flags) k = accepts_one c b flags k
owed_one c Quiet k = none_more k.received.files k.received.files refl
owed_one c OwesClear k = none_more k.received.files k.received.files refl
owed_one c Granted k = none_more k.received.files k.received.files refl
owed_one c (InBlock b) k = none_more k.received.files k.received.files refl
owed_one c OwesNak k = none_more k.received.files k.received.files refl

answers_one : (c : Codes) (o : Option Form) (k : Sink) → OneMore k.received.files (answers_form c o k).received.files
answers_one c (Some (form.Ack f l)) k = owed_one c k.phase k
answers_one c None k = none_more k.received.files k.received.files refl
answers_one c (Some (form.Rts n)) k = none_more k.received.files k.received.files refl
answers_one c (Some (form.Cts n)) k = none_more k.received.files k.received.files refl
answers_one c (Some (form.Nak b)) k = none_more k.received.files k.received.files refl
answers_one c (Some (form.Sot g f l)) k = none_more k.received.files k.received.files refl
answers_one c (Some (form.Part s)) k = none_more k.received.files k.received.files refl
answers_one c (Some (form.Eot f ch)) k = none_more k.received.files k.received.files refl

takes_none : (p : Contents) (ws : List ℕ) (k : Sink) → (takes_first p ws k).received.files ≡ k.received.files
takes_none p [] k = refl
takes_none p (w ∷ ws) k = by (form_of p.codes bus.A w)
  where
    by : (o : Option Form) → (takes_form p w o k).received.files ≡ k.received.files
    by None = refl
    by (Some x) = ap (λ (s : Received). s.files) (files_stay p w x k)

pub delivers_one : (p : Contents) (a : Step) (s : State) → length (after p a s).sink.received.files ≤ suc (length s.sink.received.files)
delivers_one p (Answered i) s = answers_one p.codes (form_of p.codes bus.B i.word) s.sink
delivers_one p SinkTakes s = none_more s.sink.received.files (takes_first p s.to_sink s.sink).received.files (takes_none p s.to_sink s.sink)
delivers_one p (Load u) s = omega arith
delivers_one p (Sent i) s = omega arith
delivers_one p SentLost s = omega arith
delivers_one p TimeOut s = omega arith
delivers_one p TakeAnswer s = omega arith
delivers_one p LoseAnswer s = omega arith
delivers_one p Silent s = omega arith
delivers_one p (FreeSeen i) s = omega arith
delivers_one p GiveUp s = omega arith
