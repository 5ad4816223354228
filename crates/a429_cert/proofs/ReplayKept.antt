-- Small facts that the goals of a replay cite: what it keeps where one call follows another, which faults are of a device, of the
-- certificate or of the recording, and how much two lines are.
use Rattle.std.proofs.Common.{◌≡◌, ◌∙◌, ◌⊎◌, ◌≤◌, ◌+◌, ◌++◌, ◌∷◌, [], inl, inr, ℕ, List, length, Bool, true, false, Option, Some, None, IsSome, refl, ap, sym, subst, arith}
use Rattle.std.proofs.lemmas.List.{length-append}
use Rattle.a429_link.specs.Link.{LinkValue, handed_out}
use Rattle.a429_record.specs.declared.fault.ReadFault.{ReadFault}
use Rattle.a429_cert.specs.Likely.{pair_text, sent_text, taken_text}
use Rattle.a429_cert.specs.Report.{Position}
use Rattle.a429_profile.specs.Profile.{Contents}
use Rattle.a429_record.specs.Recording.{Recording}
use Rattle.a429_record.specs.declared.fault.ReadFault.TheVariants as read
use Rattle.a429_word.specs.declared.trouble.Trouble.{Trouble}
use Rattle.a429_word.specs.declared.trouble.Trouble.TheVariants as trouble
use Rattle.a429_cert.specs.Stream.{HandsFilesOut, IsUnreported, OneFailed, RefusesOver, of_cert, of_read, of_trouble}
use Rattle.a429_cert.specs.Fault.{SaysLine}
use Rattle.a429_cert.specs.StreamHead.{RefusesHead}
use Rattle.a429_cert.specs.Version.{read_as}
use Rattle.a429_cert.specs.declared.fault.CertFault.{CertFault}
use Rattle.a429_cert.specs.declared.fault.CertFault.TheVariants as of
use Rattle.a429_cert.specs.declared.line.CertLine.{CertLine}
use Rattle.a429_cert.specs.declared.version.Version.{Version}
use Rattle.a429_cert.specs.declared.version.Version.TheVariants.{One, Two}
use Rattle.a429_cert.specs.declared.replay.Replay.{Replay}
use Rattle.a429_cert.specs.declared.stream_fault.StreamFault.{StreamFault}
use Rattle.a429_cert.specs.declared.stream_fault.StreamFault.TheVariants as stream

-- only its link changes, or its link and what was noted
pub kept_one : (old new : Replay) → new ≡ record old { link = new.link } → new ≡ record old { link = new.link; files = new.files }
kept_one old new e = e ∙ ap (λ files. record old { link = new.link; files = files }) (sym (ap (λ (w : Replay). w.files) e))

-- its link changes, and then its files are handed out
pub kept_both : (old mid new : Replay)
    → mid ≡ record old { link = mid.link } → HandsFilesOut mid new → new ≡ record old { link = new.link; files = new.files }
kept_both old mid new e h =
    h ∙ ap (λ (w : Replay). record w { link = record (mid.link) { state = handed_out mid.link.state }; files = new.files }) e
    ∙ ap (λ (l : LinkValue). record old { link = l; files = new.files }) (sym (ap (λ (w : Replay). w.link) h))

-- neither of the two faults of a device is one of the certificate or the recording
pub none_reported : {T : Type 0} (old new : T) (f : StreamFault) → (f ≡ stream.Device) ⊎ (f ≡ stream.OutOfMemory) → IsUnreported old new f
none_reported old new f (inl e) = subst (IsUnreported old new) (sym e) tt
none_reported old new f (inr e) = subst (IsUnreported old new) (sym e) tt

pub not_of_read : (f : StreamFault) (g : ReadFault) → (f ≡ stream.Device) ⊎ (f ≡ stream.OutOfMemory) → f ≡ stream.Read g → ⊥
not_of_read f g (inl e) h = cc (e, h)
not_of_read f g (inr e) h = cc (e, h)

-- two lines are two bytes at least
pub two_ahead : (k : ℕ) (ahead old : List ℕ) → old ≡ pair_text k ++ ahead → length ahead + 2 ≤ length old
two_ahead k ahead old e =
    let all : length old ≡ length (pair_text k) + length ahead = ap (λ (l : List ℕ). length l) e ∙ length-append (pair_text k) ahead in
    let feed : List ℕ = 10 ∷ [] in
    let second : List ℕ = 10 ∷ (taken_text k ++ feed) in
    let both : length (pair_text k) ≡ length (sent_text k) + length second = length-append (sent_text k) second in
    let ending : length (taken_text k ++ feed) ≡ length (taken_text k) + length feed = length-append (taken_text k) feed in
    omega (arith, all, both, ending)

-- a fault of the certificate is none of a device, and none of the recording
pub cert_unreported : {T : Type 0} (old : T) (f : CertFault) → IsUnreported old old (of_cert f)
cert_unreported old of.Version = refl
cert_unreported old (of.Line m) = refl
cert_unreported old (of.NotAllowed m) = refl
cert_unreported old (of.StateDiffers m) = refl
cert_unreported old (of.WordDiffers m j) = refl
cert_unreported old (of.Unfinished j) = refl
cert_unreported old of.OutOfMemory = tt

pub cert_no_device : (f : CertFault) → of_cert f ≡ stream.Device → ⊥
cert_no_device of.Version e = cc e
cert_no_device (of.Line m) e = cc e
cert_no_device (of.NotAllowed m) e = cc e
cert_no_device (of.StateDiffers m) e = cc e
cert_no_device (of.WordDiffers m j) e = cc e
cert_no_device (of.Unfinished j) e = cc e
cert_no_device of.OutOfMemory e = cc e

pub cert_no_read : (f : CertFault) (g : ReadFault) → of_cert f ≡ stream.Read g → ⊥
cert_no_read of.Version g e = cc e
cert_no_read (of.Line m) g e = cc e
cert_no_read (of.NotAllowed m) g e = cc e
cert_no_read (of.StateDiffers m) g e = cc e
cert_no_read (of.WordDiffers m j) g e = cc e
cert_no_read (of.Unfinished j) g e = cc e
cert_no_read of.OutOfMemory g e = cc e

-- a line that says something has an end
pub says_ended : (v : Version) (line : Option (List ℕ)) (l : CertLine) → SaysLine (read_as v line) l → IsSome line
says_ended v (Some text) l h = refl
says_ended One None l h = absurd h
says_ended Two None l h = absurd h

-- where shelf and listener cannot fail, the certificate's reader has failed
pub only_reader : (cert : Bool) → OneFailed cert false false → cert ≡ true
only_reader cert (inl e) = e
only_reader cert (inr (inl e)) = absurd (cc e)
only_reader cert (inr (inr e)) = absurd (cc e)

-- the head of a certificate is refused before the recording is looked at
pub head_not_read : (Holds : List ℕ → CertFault → Type 0) (old : Option (List ℕ)) (f : StreamFault) (g : ReadFault)
    → RefusesHead Holds old f → f ≡ stream.Read g → ⊥
head_not_read Holds None (stream.Read f) g h e = absurd h
head_not_read Holds (Some xs) (stream.Read f) g h e = absurd h
head_not_read Holds old (stream.Cert f) g h e = cc e
head_not_read Holds old stream.Device g h e = cc e
head_not_read Holds old stream.OutOfMemory g h e = cc e

-- nor is one of the recording one that is reported
pub read_unreported : {T : Type 0} (old : T) (f : ReadFault) → IsUnreported old old (of_read f)
read_unreported old read.Header = refl
read_unreported old (read.Row i) = refl
read_unreported old (read.TimeBack i) = refl
read_unreported old read.TooMany = refl
read_unreported old read.Device = refl
read_unreported old read.OutOfMemory = tt
read_unreported old read.Failed = refl

-- what has stopped a listener
pub trouble_unreported : {T : Type 0} (old new : T) (t : Trouble) → IsUnreported old new (of_trouble t)
trouble_unreported old new trouble.Device = tt
trouble_unreported old new trouble.OutOfMemory = tt

pub trouble_device : (t : Trouble) → of_trouble t ≡ stream.Device → t ≡ trouble.Device
trouble_device trouble.Device e = refl
trouble_device trouble.OutOfMemory e = absurd (cc e)

pub trouble_no_read : (t : Trouble) (g : ReadFault) → of_trouble t ≡ stream.Read g → ⊥
trouble_no_read trouble.Device g e = cc e
trouble_no_read trouble.OutOfMemory g e = cc e

pub trouble_refuses : (p : Contents) (text : Option (List ℕ)) (at : Position) (n : ℕ) (t : Trouble) → RefusesOver p text at n (of_trouble t)
trouble_refuses p text at n t = by at.recording t
  where
    by : (rec : Option Recording) (t : Trouble) → RefusesOver p text (record at { recording = rec }) n (of_trouble t)
    by None t = tt
    by (Some r) trouble.Device = tt
    by (Some r) trouble.OutOfMemory = tt
