-- What was put of rows that were given reports, whether they took them or failed at them.
use Rattle.std.proofs.Common.{◌++◌, ◌∷◌, ◌∙◌, ℕ, List, [], Option, refl, sym, ap, subst}
use Rattle.std.specs.List.{FoldsTo, flat_map}
use Rattle.std.proofs.lemmas.List.{append-nil}
use Rattle.std.proofs.lemmas.Grind.{flat_map-append}
use Rattle.std.proofs.KnownBytes.{Appends-nil, Keeps-refl}
use Rattle.a429_word.specs.declared.sheet.Sheet.{Sheet}
use Rattle.a429_word.specs.Sheet.{Says, said}
use Rattle.a429_word.proofs.PageFacts.{AppendsPrefix-none}
use Rattle.a429_word.proofs.SheetFacts.{◌▹◌}
use Rattle.a429_profile.specs.Profile.{Contents}
use Rattle.a429_cert.specs.Report.{Report, Loads, Makes}
use Rattle.a429_view.specs.declared.units.row.UnitRow.{UnitRow}
use Rattle.a429_view.specs.declared.units.rows.UnitRows.{UnitRows}
use Rattle.a429_view.specs.UnitSteps.{line_before, PutsInPart, TriesRows, AreRowLines}

-- what waits and what has gone out, as a sheet of output
abbrev sheet_of : {W : Type 0} → UnitRows W → Sheet W
sheet_of rows = record {
  out = record { ref_ptr = (0, 0); ghost_name = 0; now = rows.out };
  page = record { ref_ptr = (0, 0); ghost_name = 0; now = rows.page };
}

module _ {W : Type 0} (contents : W → Option (List ℕ)) where
  as_said : (a b : UnitRows W) (x : List ℕ) → PutsInPart contents a b x → Says contents (sheet_of a) (sheet_of b) x
  as_said a b x h = said (record { same_out = refl; same_page = refl; all = h.all; prefix = h.prefix; stays = h.stays })

  of_said : (a b : UnitRows W) (x : List ℕ) → Says contents (sheet_of a) (sheet_of b) x → PutsInPart contents a b x
  of_said a b x (said h) = record { all = h.all; prefix = h.prefix; stays = h.stays }

  pub part_both : (a b c : UnitRows W) (x y : List ℕ)
      → PutsInPart contents a b x → PutsInPart contents b c y → PutsInPart contents a c (x ++ y)
  part_both a b c x y h g = of_said a c (x ++ y) (as_said a b x h ▹ as_said b c y g)

  part_none : (a : UnitRows W) → PutsInPart contents a a []
  part_none a = record { all = λ _. Appends-nil _; prefix = AppendsPrefix-none _ _ _ (Keeps-refl _); stays = λ _. refl }

  -- lines were put, in whole or in part
  pub record Tried (old new : UnitRows W) : Type 0 where
    pub text : List ℕ
    pub part : PutsInPart contents old new text
    pub rows : AreRowLines text

  pub tried : (p : Contents) (old new : UnitRows W) (reports : List Report) → FoldsTo (TriesRows contents p) old reports new → Tried old new
  tried p old new [] h = subst (λ (n : UnitRows W). Tried old n) h (record { text = []; part = part_none old; rows = ([], refl) })
  tried p old new (Loads number unit ∷ reports) h =
      let next = tried p h.0 new reports h.2 in
      record {
        text = line_before old.row ++ next.text;
        part = part_both old h.0 new (line_before old.row) next.text h.1 next.part;
        rows = (old.row ∷ next.rows.0, ap (λ (t : List ℕ). line_before old.row ++ t) next.rows.1);
      }
  tried p old new (Makes act entry ∷ reports) h =
      let next =
      tried p (record old { row = h.0.row }) new reports
      (subst (λ (r : UnitRows W). FoldsTo (TriesRows contents p) r reports new) h.1 h.2) in
      record {
        text = next.text;
        part = record { all = next.part.all; prefix = next.part.prefix; stays = next.part.stays };
        rows = next.rows;
      }

-- the line of one more row
pub rows_more : (text : List ℕ) (row : Option UnitRow) → AreRowLines text → AreRowLines (text ++ line_before row)
rows_more text row h = (
  h.0 ++ row ∷ [],
  ap (λ (t : List ℕ). t ++ line_before row) h.1
      ∙ sym (flat_map-append line_before h.0 (row ∷ [])
      ∙ ap (λ (t : List ℕ). flat_map line_before h.0 ++ t) (append-nil (line_before row))),
)
