-- A byte order mark at the front of a line.
use Rattle.std.proofs.Common.{◌≡◌, ◌-◌, ◌==◌, ◌&&◌, ℕ, List, [], ◌∷◌, length, take, take_all, drop, Bool, true, false, if◌then◌else◌, arith, refl, sym}
use Rattle.std.proofs.lemmas.Bool.{and_parts, eqb-true}
use Rattle.std.proofs.lemmas.Bool.Decides.{Decides-eqb}
use Rattle.std.proofs.lemmas.Slice.Eq.{starts_is}
use Rattle.std.specs.List.{starts_with}
use Rattle.csv.specs.Reading.{strip_bom, is_bom}

-- a line that begins with one, and one that does not
pub without_mark : (line : List ℕ) (r : Bool) → r ≡ starts_with ◌==◌ line (0xEF ∷ 0xBB ∷ 0xBF ∷ [])
    → (r ≡ true → take (length line - 3) (drop 3 line) ≡ strip_bom line) × (r ≡ false → line ≡ strip_bom line)
unfolding strip_bom
without_mark line r e =
    let says = starts_is Decides-eqb line (0xEF ∷ 0xBB ∷ 0xBF ∷ []) r e in
    (λ yes. marked (drop 3 line) line (says.0 yes), λ no. bare line (λ rest h. absurd (cc (no, says.1 rest h))))
  where
    marked : (rest line : List ℕ) → line ≡ 0xEF ∷ 0xBB ∷ 0xBF ∷ rest → take (length line - 3) (drop 3 line) ≡ strip_bom line
    marked rest line h = rw h (take_all (length (0xEF ∷ 0xBB ∷ 0xBF ∷ rest) - 3) rest (omega arith))

    bare : (line : List ℕ) → ((rest : List ℕ) → line ≡ 0xEF ∷ 0xBB ∷ 0xBF ∷ rest → ⊥) → line ≡ strip_bom line
    bare [] h = refl
    bare (a ∷ []) h = refl
    bare (a ∷ b ∷ []) h = refl
    bare (a ∷ b ∷ c ∷ rest) h = by (is_bom a b c) refl
      where
        by : (m : Bool) → m ≡ is_bom a b c → a ∷ b ∷ c ∷ rest ≡ (if m then rest else a ∷ b ∷ c ∷ rest)
        by false e = refl
        by true e =
            let parts = and_parts ((a == 0xEF) && (b == 0xBB)) (c == 0xBF) (sym e) in
            let first = and_parts (a == 0xEF) (b == 0xBB) parts.0 in
            absurd (h rest (cc (eqb-true a 0xEF first.0, eqb-true b 0xBB first.1, eqb-true c 0xBF parts.1)))
