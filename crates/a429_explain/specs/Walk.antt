-- The first word of a recording that no run records after those before it, and the reason (profile).
use Rattle.std.specs.Prelude.{ℕ, ◌+◌, ◌<◌, List, Option, Some, None, take, slice_get, length}
use Rattle.a429_profile.specs.declared.codes.Codes.{Codes}
use Rattle.a429_profile.specs.Profile.{Contents}
use Rattle.a429_ldu.specs.declared.forms.Form.TheVariants.{Rts, Cts, Ack, Nak, Sot, Part, Eot}
use Rattle.a429_ldu.specs.declared.sight.Sight.{Sight}
use Rattle.a429_ldu.specs.declared.sight.Sight.TheVariants as sight
use Rattle.a429_ldu.specs.Sight.{sight_of}
use Rattle.a429_link.specs.declared.seen.Seen.{Seen}
use Rattle.a429_link.specs.Observer.{AllowsNext, IsRefused, observed, at_first}
use Rattle.a429_link.specs.Run.{BeginsARun}
use Rattle.a429_explain.specs.declared.verdict.Reason.{Reason}
use Rattle.a429_explain.specs.declared.verdict.Reason.TheVariants.{NoForm, NotGranted, WrongAnswer}
use Rattle.a429_explain.specs.declared.walk.Halt.{Halt}

-- each of the first n words is allowed after those before it
abbrev pub AreAllowedUpTo : Contents → List Seen → ℕ → Type 0
AreAllowedUpTo p items n = (k : ℕ) → k < n → AllowsNext p (observed p (take k items) at_first) (slice_get items k)

-- word i is the first that is not
pub record IsFirstRefused (p : Contents) (items : List Seen) (i : ℕ) : Type 0 where
  pub before : AreAllowedUpTo p items i
  pub refused : IsRefused p items i

-- some recording does not allow the word: it is neither free nor a request to send
abbrev pub IsRefusable : Sight → Type 0
IsRefusable sight.Free = ⊥
IsRefusable (sight.Form (Rts n)) = ⊥
IsRefusable _ = Unit {0}

-- the reason fits what the word says: none of the forms; a word of a block; an answer
abbrev pub FitsSight : Sight → Reason → Type 0
FitsSight sight.NoForm NoForm = Unit {0}
FitsSight (sight.Form (Sot gfi file ldu)) NotGranted = Unit {0}
FitsSight (sight.Form (Part semis)) NotGranted = Unit {0}
FitsSight (sight.Form (Eot flags check)) NotGranted = Unit {0}
FitsSight (sight.Form (Cts n)) WrongAnswer = Unit {0}
FitsSight (sight.Form (Ack file ldu)) WrongAnswer = Unit {0}
FitsSight (sight.Form (Nak bits)) WrongAnswer = Unit {0}
FitsSight _ _ = ⊥

abbrev pub FitsAt : Codes → Option Seen → Reason → Type 0
FitsAt c None reason = ⊥
FitsAt c (Some i) reason = FitsSight (sight_of c i.bus i.word) reason

-- no run's trace begins with the words up to this one, the first that those before it do not allow, and the reason fits it
pub record IsRefusal (p : Contents) (items : List Seen) (i : ℕ) (reason : Reason) : Type 0 where
  pub first : IsFirstRefused p items i
  pub inside : i < length items
  pub fits : FitsAt p.codes (slice_get items i) reason
  pub impossible : BeginsARun p (take (i + 1) items) → ⊥

abbrev pub IsHalt : Contents → List Seen → Halt → Type 0
IsHalt p items h = IsRefusal p items h.entry h.reason
