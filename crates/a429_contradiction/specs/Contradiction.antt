-- What contradicts the words recorded before it, so that no run's trace begins so (ARINC 429 Part 3; which numbers may come:
-- profile).
use Rattle.std.specs.Prelude.{◌⊎◌, ◌<◌, ◌+◌, ℕ, List, Option, length, take}
use Rattle.a429_word.specs.declared.bus.Bus.{Bus}
use Rattle.a429_profile.specs.Profile.{Contents}
use Rattle.a429_ldu.specs.declared.forms.Form.{Form}
use Rattle.a429_link.specs.declared.seen.Seen.{Seen}
use Rattle.a429_link.specs.Observer.{Observer}
use Rattle.a429_link.specs.Run.{BeginsARun}
use Rattle.a429_link.specs.WholeBlock.{ComesForm, EndsBadForm, EndsBadAt, IsHalfAt, IsHalfForm, NumberComesAt}
use Rattle.a429_link.specs.Contradiction.{SoFar, IsOtherAt, IsOtherForm, IsWrongAt, IsWrongForm}
use Rattle.a429_explain.specs.declared.verdict.Reason.{Reason}
use Rattle.a429_contradiction.specs.declared.contradiction.Contradiction.{Contradiction}
use Rattle.a429_explain.specs.declared.verdict.Reason.TheVariants.{BadBlock, WrongNumber, OtherBlock}

-- item i ends a block that is recorded whole, and makes no link data unit of it, or it is the last data word of a block whose data
-- words are all recorded, and they carry no bytes; it is a start word with a number that may not
-- come after that of the link data unit accepted last, or that the source cannot have gone to from that of the start word before
-- it; or it contradicts what is recorded of the same link data unit before it
abbrev pub ContradictsAt : Contents → List Seen → ℕ → Reason → Type 0
ContradictsAt p items i BadBlock = EndsBadAt p items i ⊎ IsHalfAt p items i
ContradictsAt p items i WrongNumber = ¬ NumberComesAt p items i ⊎ IsWrongAt p items i
ContradictsAt p items i OtherBlock = IsOtherAt p items i
ContradictsAt p items i reason = ⊥

-- none of the first n items contradicts those before it
abbrev pub HasNoContradiction : Contents → List Seen → ℕ → Type 0
HasNoContradiction p items n = (i : ℕ) → i < n → (reason : Reason) → ¬ ContradictsAt p items i reason

-- the same of one word, by what the words before it have shown
abbrev pub Contradicts : Contents → Observer → SoFar → Bus → ℕ → Option Form → Reason → Type 0
Contradicts p o s b w x BadBlock = EndsBadForm p b x o.phase o.count ⊎ IsHalfForm p.codes b w x s.attempt
Contradicts p o s b w x WrongNumber = ¬ ComesForm p.codes b x o.last ⊎ IsWrongForm b x s
Contradicts p o s b w x OtherBlock = IsOtherForm b w x s
Contradicts p o s b w x reason = ⊥

-- of the reasons in the order `BadBlock`, `WrongNumber`, `OtherBlock`: none before this one holds
abbrev pub HasNoneBefore : (Reason → Type 0) → Reason → Type 0
HasNoneBefore Holds WrongNumber = ¬ Holds BadBlock
HasNoneBefore Holds OtherBlock = (¬ Holds BadBlock) × (¬ Holds WrongNumber)
HasNoneBefore Holds reason = Unit {0}

-- it is one of the items, and the first that contradicts those before it; its reason is the first that holds there
pub record IsFirstContradiction (p : Contents) (items : List Seen) (c : Contradiction) : Type 0 where
  pub inside : c.entry < length items
  pub holds : ContradictsAt p items c.entry c.reason
  pub before : HasNoContradiction p items c.entry
  pub ranked : HasNoneBefore (ContradictsAt p items c.entry) c.reason

-- no run's trace begins with the words up to item i
abbrev pub HasNoRun : Contents → List Seen → ℕ → Type 0
HasNoRun p items i = BeginsARun p (take (i + 1) items) → ⊥
