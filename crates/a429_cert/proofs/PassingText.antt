-- The lines of steps, by their first letter.
use Rattle.std.proofs.Common.{◌≡◌, ◌≢◌, ◌==◌, ◌∙◌, inl, inr, ℕ, List, ◌∷◌, Option, Some, None, option_map, Result, Ok, Err, IfOk, sym, ap, subst}
use Rattle.std.proofs.lemmas.Option.{same_Some}
use Rattle.a429_profile.specs.Profile.{Contents}
use Rattle.a429_link.specs.declared.seen.Seen.{Seen}
use Rattle.a429_link.specs.State.{State}
use Rattle.a429_cert.specs.declared.line.CertLine.{CertLine}
use Rattle.a429_cert.specs.declared.line.CertLine.TheVariants.{First, Load, Moved}
use Rattle.a429_cert.specs.declared.fault.CertFault.{CertFault}
use Rattle.a429_cert.specs.declared.fault.CertFault.TheVariants as of
use Rattle.a429_cert.specs.Line.{SpellsLine}
use Rattle.a429_cert.specs.Reading.{first_in, load_in, moved_in, line_in}
use Rattle.a429_cert.specs.Fault.{at_line, IsOfAStep, IsFaultOfLine}
use Rattle.a429_cert.specs.declared.at.At.{At}
use Rattle.a429_cert.specs.declared.listed.Listed.{Listed}
use Rattle.a429_cert.specs.declared.listed.Listed.TheVariants as listed
use Rattle.a429_cert.specs.Passing.{IsFaultOfRead, IsStepOfLine, Lists, RefusesListed, RefusesText}
use Rattle.a429_cert.proofs.ReadingFacts.{line-back}
use Rattle.a429_cert.proofs.FieldNumbers.{is_same}
use Rattle.a429_cert.proofs.Options.{split}

none-some : {A : Type 0} (a : A) (o : Option A) → o ≡ None → o ≡ Some a → ⊥
none-some a o e f = cc

-- what spells a line is read as it
read-as : (text : List ℕ) (l : CertLine) → SpellsLine text l → line_in text ≡ Some l
read-as text l s = ap line_in s.spelled ∙ line-back l s.line s.held

-- the line of the first file's number is that of no step
first-none : (n : Option ℕ) (l : CertLine) → option_map (λ n. First n) n ≡ Some l → IsOfAStep l → ⊥
first-none (Some n) l e is = subst IsOfAStep (sym (same_Some (First n) l e)) is
first-none None l e is = absurd (cc e)

-- where an L stands first, and behind it no link data unit
pub no_load : (bytes : List ℕ) (l : CertLine) → load_in bytes ≡ None → SpellsLine (76 ∷ bytes) l → ⊥
unfolding line_in
no_load bytes l e s = none-some l (option_map (λ x. Load x) (load_in bytes)) (ap (option_map (λ x. Load x)) e) (read-as (76 ∷ bytes) l s)

-- where another letter stands first, and it begins no step
pub no_move : (letter : ℕ) (bytes : List ℕ) (l : CertLine)
    → letter ≢ 76 → moved_in letter bytes ≡ None → IsOfAStep l → SpellsLine (letter ∷ bytes) l → ⊥
unfolding line_in
no_move letter bytes l other e is s =
    elim (split (letter == 76) (option_map (λ x. Load x) (load_in bytes)) _ l (read-as (letter ∷ bytes) l s)) [
      | inl p ↦ other (is_same letter 76 p.0)
      | inr r ↦
          elim (split (letter == 102) (option_map (λ n. First n) (first_in (letter ∷ bytes)))
          (option_map (λ x. Moved x) (moved_in letter bytes)) l r) [
            | inl p ↦ first-none (first_in (letter ∷ bytes)) l p.1 is
            | inr q ↦ none-some l (option_map (λ x. Moved x) (moved_in letter bytes)) (ap (option_map (λ x. Moved x)) e) q
          ]
    ]

-- the fault of a line that was read is that of its text
pub fault-read : (p : Contents) (s : State) (next : Option Seen) (n i : ℕ) (text : List ℕ) (l : CertLine) (f : CertFault)
    → SpellsLine text l → IsOfAStep l → IsFaultOfRead p s (at_line n i next) l f → IsFaultOfLine p s (at_line n i next) (Some text) f
fault-read p s next n i text l of.Version spells is h = (l, spells, h.0, h.1)
fault-read p s next n i text l (of.Line m) spells is h = absurd (h.1 is)
fault-read p s next n i text l (of.NotAllowed m) spells is h = (l, spells, h.0, h.1)
fault-read p s next n i text l (of.StateDiffers m) spells is h = (l, spells, h.0, h.1)
fault-read p s next n i text l (of.WordDiffers m j) spells is h = (l, spells, h.0, h.1)
fault-read p s next n i text l (of.Unfinished j) spells is h = (l, spells, h.0, h.1)
fault-read p s next n i text l of.OutOfMemory spells is h = (l, spells, h.0, h.1)

-- the step that a line lists is that of a line of a step
lists-step : (x : Listed) (l : CertLine) → IsStepOfLine x l → IsOfAStep l
lists-step (listed.Load u) (Load l) h = tt
lists-step (listed.Load u) (First n) h = h
lists-step (listed.Load u) (Moved m) h = tt
lists-step (listed.Moved m) (Moved l) h = tt
lists-step (listed.Moved m) (First n) h = h
lists-step (listed.Moved m) (Load l) h = tt

pub fault-listed : (p : Contents) (text : Option (List ℕ)) (x : Listed) (at : At) (s : State) (f : CertFault)
    → Lists p text x s → RefusesListed p x at s f → RefusesText p text at s f
fault-listed p None x at s f h r = absurd h.1
fault-listed p (Some text) x at s f h r = λ z. fault-read p s at.next at.line at.entry text h.0 f h.1 (lists-step x h.0 h.2) (r h.0 h.2 z)

-- what lists a step in each state lists it in this one
pub listed_here : (r : Result Listed CertFault) (p : Contents) (text : Option (List ℕ)) (s : State)
    → IfOk r (λ x. (s : State) → Lists p text x s) → IfOk r (λ x. Lists p text x s)
listed_here (Ok x) p text s h = h s
listed_here (Err f) p text s h = tt
