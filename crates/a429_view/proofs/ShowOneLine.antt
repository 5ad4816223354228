-- The line of an entry is one.
use Rattle.std.proofs.Common.{◌≡◌, ℕ, List, [], ◌∷◌, ◌++◌, codes, sym, ap, ◌∙◌}
use Rattle.std.specs.Fmt.{decimal}
use Rattle.a429_word.proofs.FixedOneSpelling.{one_spelling}
use Rattle.a429_profile.specs.declared.entry.LabelEntry.{LabelEntry}
use Rattle.a429_profile.specs.declared.shown.Shown.{Shown}
use Rattle.a429_profile.specs.Profile.{Contents}
use Rattle.a429_profile.specs.Shown.{ShowSame, same_parity, same_no_entry, same_status, same_digit, same_value, same_bits}
use Rattle.a429_profile.proofs.ShownOnce.{one_shown}
use Rattle.a429_record.specs.declared.entry.Entry.{Entry}
use Rattle.a429_view.specs.Show.{status_text, unit_text, test_text, flags_text, recorded_text, fields_text, IsShownText, IsShowLine, AreShowLines}

-- what is the same has one text
one_text : (x y : Shown) (a b : List ℕ) → ShowSame x y → IsShownText x a → IsShownText y b → a ≡ b
one_text _ _ a b same_parity h k = h ∙ sym k
one_text _ _ a b same_no_entry h k = h ∙ sym k
one_text _ _ a b (same_status {status} same) h k = h ∙ ap (λ (e : LabelEntry). e.name ++ status_text status) same ∙ sym k
one_text _ _ a b (same_digit {place} same) h k = h ∙ ap (λ (e : LabelEntry). e.name ++ codes " bad digit " ++ decimal place) same ∙ sym k
one_text _ _ a b (same_value {e} {f} {v} {is_test} same) h k =
    h.2
    ∙ ap (λ (entry : LabelEntry). entry.name ++ codes " " ++ h.0 ++ unit_text entry.unit ++ test_text is_test) same
    ∙ ap (λ digits. f.now.name ++ codes " " ++ digits ++ unit_text f.now.unit ++ test_text is_test)
    (one_spelling h.0 k.0 v.number v.decimals h.1 k.1)
    ∙ sym k.2
one_text _ _ a b (same_bits {field} {is_test} same) h k =
    h ∙ ap (λ (e : LabelEntry). e.name ++ flags_text field e.kind ++ test_text is_test) same ∙ sym k

pub one_line : (p : Contents) (e : Entry) (a b : List ℕ) → IsShowLine p e a → IsShowLine p e b → a ≡ b
one_line p e a b la lb =
    la.layout
    ∙ ap (λ text. recorded_text e ++ fields_text e.word ++ text ++ codes "\n")
    (one_text la.what lb.what la.text lb.text (one_shown p e.word la.what lb.what la.is_shown lb.is_shown) la.is_text lb.is_text)
    ∙ sym lb.layout

pub same_lines : (p : Contents) (es : List Entry) (a b : List ℕ) → AreShowLines p es a → AreShowLines p es b → a ≡ b
same_lines p [] a b la lb = la ∙ sym lb
same_lines p (e ∷ es) a b la lb =
    la.4 ∙ ap (λ line. line ++ la.1) (one_line p e la.0 lb.0 la.2 lb.2) ∙ ap (λ rest. lb.0 ++ rest) (same_lines p es la.1 lb.1 la.3 lb.3)
    ∙ sym lb.4
