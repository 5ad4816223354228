use Rattle.std.proofs.Common.{◌∙◌, ◌≡◌, ℕ, List, [], refl}
use Rattle.a429_profile.specs.declared.entry.Flag.{Flag}
use Rattle.a429_profile.specs.declared.entry.Kind.{Kind}
use Rattle.a429_profile.specs.declared.entry.Kind.TheVariants.{Bnr, Bcd, Discrete}
use Rattle.a429_word.specs.Sheet.{Says}
use Rattle.a429_word.proofs.SheetFacts.{◌▹◌, says_nothing}
use Rattle.a429_view.specs.Show.{flags_text}
use Rattle.a429_view.proofs.show.put_bits.Goals as goal
use Rattle.a429_view.proofs.show.put_bits.Goals.{in-Discrete, in_default}

no_flags : (field : ℕ) (kind : Kind) → ((flags : List Flag) → kind ≡ Discrete flags → ⊥) → flags_text field kind ≡ []
no_flags field (Discrete flags) other = absurd (other flags refl)
no_flags field (Bnr bits range decimals) other = refl
no_flags field (Bcd digits decimals) other = refl

pub returns : goal.returns
returns g c =
    let name = rw (c.as_bytes.ensures.value ∙ c.as_str.ensures) at c.put.ensures in
    let flags : Says g.W.Write.contents c.put.new.self c.match-entry.sheet (flags_text c.args.field c.args.entry.now.kind) =
    elim c.match-entry.branch [
      | in-Discrete w ↦ rw (w.sheet-is, w.in-Discrete.is) (rw w.as_slice.ensures at w.put_flags.ensures)
      | in_default w ↦ rw (w.sheet-is, no_flags c.args.field c.args.entry.now.kind w.in_default.not-Discrete) (says_nothing _ _)
    ] in
    name ▹ flags ▹ c.put_test.ensures
