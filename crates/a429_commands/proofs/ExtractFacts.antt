-- Which files are on a shelf where a command gives no verdict.
use Rattle.std.proofs.Common.{◌≡◌, inl, inr, ℕ, Bool, true, List, Vec, Global, Result, Ok, Err, IfOk, IfErr, refl, sym, ap, subst, ◌∙◌}
use Rattle.a429_profile.specs.Profile.{Contents}
use Rattle.a429_record.specs.declared.fault.ReadFault.TheVariants as read
use Rattle.a429_cert.specs.declared.stream_fault.StreamFault.{StreamFault}
use Rattle.a429_cert.specs.declared.stream_fault.StreamFault.TheVariants as stream
use Rattle.a429_cert.specs.StreamExplained.{compared, Refuses, SaysYes}
use Rattle.a429_cert.specs.BreakOff.{BreaksOff}
use Rattle.a429_commands.specs.declared.fault.RunFault.{RunFault}
use Rattle.a429_commands.specs.declared.fault.RunFault.TheVariants as run
use Rattle.a429_commands.specs.Profile.{IsProfileFault, IsProfileOf}
use Rattle.a429_commands.specs.Verdict.{IsNoAnswer, of_stream}
use Rattle.a429_commands.specs.Extract.{IsAnsweredAt, IsUntouched, Leaves, Progress}
use Rattle.a429_cert.specs.Change.{change}

-- the profile was not read
pub left_by_profile : (profile : List ℕ) (at : Progress) (Failed : Type 0) (e : RunFault)
    → IsProfileFault profile e → IsUntouched at → Leaves profile at Failed e
left_by_profile profile at Failed (run.Profile f) e h = h
left_by_profile profile at Failed run.Memory e h = inl h
left_by_profile profile at Failed (run.Read f) e h = absurd e
left_by_profile profile at Failed run.Device e h = absurd e
left_by_profile profile at Failed (run.Cut k f) e h = absurd e
left_by_profile profile at Failed run.TooLong e h = absurd e
left_by_profile profile at Failed run.BadWord e h = absurd e
left_by_profile profile at Failed run.Usage e h = absurd e
left_by_profile profile at Failed run.NoPlace e h = absurd e
left_by_profile profile at Failed run.OldFiles e h = absurd e
left_by_profile profile at Failed (run.Map f) e h = absurd e
left_by_profile profile at Failed (run.Export f) e h = absurd e

module _ (profile : List ℕ) (p : Contents) (at : Progress) (Failed : Type 0) (is : IsProfileOf profile p) where
  -- the stream has a fault
  pub left_by_stream : (f : StreamFault)
      → Refuses (compared p at.read.certificate at.read.recording) (change at.shelf.before at.shelf.after) f
      → BreaksOff p at.read at.shelf at.listener f
      → (f ≡ stream.Device → Failed) → (f ≡ stream.Read read.Device → Failed) → Leaves profile at Failed (of_stream f)
  left_by_stream f here place a b = by f here place a b
    where
      answered : (f : StreamFault) → Refuses (compared p at.read.certificate at.read.recording) (change at.shelf.before at.shelf.after) f
          → BreaksOff p at.read at.shelf at.listener f → IsAnsweredAt profile at (Err f)
      answered f here place = record { contents = p; is_profile = is; is = here; place = place }

      by : (f : StreamFault) → Refuses (compared p at.read.certificate at.read.recording) (change at.shelf.before at.shelf.after) f
          → BreaksOff p at.read at.shelf at.listener f → (f ≡ stream.Device → Failed) → (f ≡ stream.Read read.Device → Failed)
          → Leaves profile at Failed (of_stream f)
      by (stream.Cert f) here place a b = inr (stream.Cert f, refl, answered (stream.Cert f) here place)
      by (stream.Read read.Header) here place a b = (stream.Read read.Header, refl, answered (stream.Read read.Header) here place)
      by (stream.Read (read.Row i)) here place a b = (stream.Read (read.Row i), refl, answered (stream.Read (read.Row i)) here place)
      by (stream.Read (read.TimeBack i)) here place a b =
          (stream.Read (read.TimeBack i), refl, answered (stream.Read (read.TimeBack i)) here place)
      by (stream.Read read.TooMany) here place a b = (stream.Read read.TooMany, refl, answered (stream.Read read.TooMany) here place)
      by (stream.Read read.Failed) here place a b = (stream.Read read.Failed, refl, answered (stream.Read read.Failed) here place)
      by (stream.Read read.Device) here place a b =
          inl (b refl, (Err (stream.Read read.Device), answered (stream.Read read.Device) here place))
      by (stream.Read read.OutOfMemory) here place a b =
          inr (stream.Read read.OutOfMemory, refl, answered (stream.Read read.OutOfMemory) here place)
      by stream.Device here place a b = inl (a refl, (Err stream.Device, answered stream.Device here place))
      by stream.OutOfMemory here place a b = inr (stream.OutOfMemory, refl, answered stream.OutOfMemory here place)

  -- a device has failed, whatever was answered
  pub left_by_device : (r : Result (Vec (ℕ × ℕ) Global) StreamFault)
      → IfOk r (SaysYes (compared p at.read.certificate at.read.recording) (change at.shelf.before at.shelf.after))
      → IfErr r (Refuses (compared p at.read.certificate at.read.recording) (change at.shelf.before at.shelf.after))
      → IfErr r (BreaksOff p at.read at.shelf at.listener) → Failed → Leaves profile at Failed run.Device
  left_by_device (Ok files) here there place failed =
      inl (failed, (Ok files.items, record { contents = p; is_profile = is; is = here; place = tt }))
  left_by_device (Err f) here there place failed =
      inl (failed, (Err f, record { contents = p; is_profile = is; is = there; place = place }))

  pub left_by_no_answer : (failed : Bool) (r : Result (Vec (ℕ × ℕ) Global) StreamFault) (e : RunFault) → IsNoAnswer failed r e
      → IfOk r (SaysYes (compared p at.read.certificate at.read.recording) (change at.shelf.before at.shelf.after))
      → IfErr r (Refuses (compared p at.read.certificate at.read.recording) (change at.shelf.before at.shelf.after))
      → IfErr r (BreaksOff p at.read at.shelf at.listener)
      → (failed ≡ true → Failed) → (r ≡ Err stream.Device → Failed) → (r ≡ Err (stream.Read read.Device) → Failed)
      → Leaves profile at Failed e
  left_by_no_answer failed r e (inl h) here there place any a b =
      subst (Leaves profile at Failed) (sym h.1) (left_by_device r here there place (any h.0))
  left_by_no_answer failed r e (inr (_, (f, same, fault))) here there place any a b =
      let refused : Refuses (compared p at.read.certificate at.read.recording) (change at.shelf.before at.shelf.after) f =
      subst (λ (x : Result (Vec (ℕ × ℕ) Global) StreamFault).
      IfErr x (Refuses (compared p at.read.certificate at.read.recording) (change at.shelf.before at.shelf.after))) same there in
      let breaks : BreaksOff p at.read at.shelf at.listener f =
      subst (λ (x : Result (Vec (ℕ × ℕ) Global) StreamFault). IfErr x (BreaksOff p at.read at.shelf at.listener)) same place in
      subst (Leaves profile at Failed) (sym fault)
      (left_by_stream f refused breaks (λ is_device. a (same ∙ ap (λ (x : StreamFault). Err x) is_device))
      (λ is_read. b (same ∙ ap (λ (x : StreamFault). Err x) is_read)))
