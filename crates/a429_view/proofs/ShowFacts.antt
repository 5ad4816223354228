-- The lines of a recording, entry by entry.
use Rattle.std.proofs.Common.{◌≡◌, ℕ, ◌+◌, ◌<◌, List, [], ◌∷◌, ◌++◌, length, take, get_or, sym, ap, ◌∙◌, append-nil, append_assoc, refl, false, codes}
use Rattle.std.proofs.lemmas.List.{take_more}
use Rattle.a429_profile.specs.Profile.{Contents}
use Rattle.a429_record.specs.declared.entry.Entry.{Entry}
use Rattle.std.specs.Prelude.{◌==◌}
use Rattle.std.proofs.Math.Seq.{take-append_seam}
use Rattle.a429_view.specs.Show.{unit_text, IsShowLine, AreShowLines, AreFirstShowLines}

-- the lines of some entries, and then those of more
pub AreShowLines-join : (p : Contents) (es more : List Entry) (text rest : List ℕ)
    → AreShowLines p es text → AreShowLines p more rest → AreShowLines p (es ++ more) (text ++ rest)
AreShowLines-join p [] more text rest none lines = rw none lines
AreShowLines-join p (e ∷ es) more text rest lines next =
    let first = lines.0 in
    let others = lines.1 in (
      first,
      others ++ rest,
      lines.2,
      AreShowLines-join p es more others rest lines.3 next,
      ap (λ t. t ++ rest) lines.4 ∙ append_assoc first others rest,
    )

-- the lines up to an entry, and those with it
pub AreShowLines-next : (p : Contents) (es : List Entry) (i : ℕ) (e : Entry) (text line : List ℕ) → i < length es → e ≡ get_or es i e
    → AreShowLines p (take i es) text → IsShowLine p e line → AreShowLines p (take (i + 1) es) (text ++ line)
AreShowLines-next p es i e text line h found lines is =
    rw (take_more es i e h ∙ ap (λ x. take i es ++ x ∷ []) (sym found))
    (AreShowLines-join p (take i es) (e ∷ []) text line lines (line, [], is, refl, sym (append-nil line)))

-- a unit that is there, after a space
pub unit_text-is : (unit : List ℕ) → (length unit == 0) ≡ false → codes " " ++ unit ≡ unit_text unit
unit_text-is [] none = absurd (cc (none))
unit_text-is (c ∷ cs) some = refl

-- the lines of some entries are those of the first ones of these and more
pub AreShowLines-first : (p : Contents) (es more all : List Entry) (text : List ℕ)
    → es ++ more ≡ all → AreShowLines p es text → AreFirstShowLines p all text
AreShowLines-first p es more all text e lines = (length es, rw (ap (take (length es)) (sym e) ∙ take-append_seam es more) lines)
