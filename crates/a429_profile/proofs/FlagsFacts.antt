-- The texts of flags, one after the other.
use Rattle.std.proofs.Common.{◌≡◌, ℕ, ◌+◌, ◌<◌, List, [], ◌∷◌, ◌++◌, ◌≤◌, length, length-append, length-take, take, drop, get_or, sym, ap, ◌∙◌, append_assoc, codes, arith}
use Rattle.std.specs.Fmt.{decimal}
use Rattle.std.specs.List.{flat_map}
use Rattle.std.proofs.lemmas.Fmt.{decimal_digit}
use Rattle.std.proofs.lemmas.List.{drop_more, take-take, take_at, drop-take, drop_at, drop-drop}
use Rattle.a429_profile.specs.declared.entry.Flag.{Flag}
use Rattle.a429_profile.specs.Flags.{text_with, both_texts}

-- a text, of which the last two bytes are written at once
pub text_with-is : (bit : ℕ) (f : Flag) → bit < 10 → codes " " ++ f.name ++ (61 ∷ (48 + bit) ∷ []) ≡ text_with bit f
text_with-is bit f small =
    ap (λ t. codes " " ++ f.name ++ (61 ∷ t)) (sym (decimal_digit bit small))
    ∙ sym (append_assoc (codes " " ++ f.name) (codes "=") (decimal bit))

-- both, one after the other
pub both_texts-is : (old one both : List ℕ) (f : Flag) → one ≡ old ++ (codes " " ++ f.name ++ (61 ∷ 48 ∷ []))
    → both ≡ one ++ (codes " " ++ f.name ++ (61 ∷ 49 ∷ [])) → both ≡ old ++ both_texts f
both_texts-is old one both f e1 e2 =
    let high = codes " " ++ f.name ++ (61 ∷ 49 ∷ []) in
    e2 ∙ ap (λ t. t ++ high) e1 ∙ append_assoc old (codes " " ++ f.name ++ (61 ∷ 48 ∷ [])) high
    ∙ ap (λ t. old ++ (t ++ high)) (text_with-is 0 f (omega arith)) ∙ ap (λ t. old ++ (text_with 0 f ++ t)) (text_with-is 1 f (omega arith))

-- how long a text is
pub length-text_with : (bit : ℕ) (f : Flag) → bit < 10 → length (text_with bit f) ≡ length f.name + 3
length-text_with bit f small =
    omega (arith, ap length (text_with-is bit f small), length-append (codes " " ++ f.name) (61 ∷ (48 + bit) ∷ []))

-- the texts of the flags from a place on are those of the flag there, and then the others
pub both_texts-rest : (fs : List Flag) (i : ℕ) (f : Flag)
    → i < length fs → f ≡ get_or fs i f → flat_map both_texts (drop i fs) ≡ both_texts f ++ flat_map both_texts (drop (i + 1) fs)
both_texts-rest fs i f h found = ap (flat_map both_texts) (drop_more fs i f h ∙ ap (λ x. x ∷ drop (i + 1) fs) (sym found))

-- of a list that begins with both texts of a flag: there is room for them, where they are, and what follows them
pub both_texts-fit : (f : Flag) (all : List ℕ)
    → take (length (both_texts f)) all ≡ both_texts f → (length f.name + 3) + (length f.name + 3) ≤ length all
both_texts-fit f all h =
    let low = length-text_with 0 f (omega arith) in
    let high = length-text_with 1 f (omega arith) in
    omega (arith, ap length h, length-take (length (both_texts f)) all, length-append (text_with 0 f) (text_with 1 f), low, high)

pub both_texts-split : (f : Flag) (all : List ℕ) (len : ℕ) → len ≡ length f.name + 3 → take (length (both_texts f)) all ≡ both_texts f →
    (take len all ≡ text_with 0 f) × (take len (drop len all) ≡ text_with 1 f)
    × (drop len (drop len all) ≡ drop (length (both_texts f)) all)
both_texts-split f all len is h =
    let low = text_with 0 f in
    let high = text_with 1 f in
    let first : length low ≡ len = length-text_with 0 f (omega arith) ∙ sym is in
    let second : length high ≡ len = length-text_with 1 f (omega arith) ∙ sym is in
    let whole : length (both_texts f) ≡ len + len = omega (arith, length-append low high, first, second) in
    let front : take (len + len) all ≡ low ++ high = ap (λ k. take k all) (sym whole) ∙ h in (
      sym (take-take len (len + len) all (omega arith)) ∙ ap (take len) front ∙ take_at low high len first,
      sym (drop-take len len all) ∙ ap (drop len) front ∙ drop_at low high len first,
      drop-drop len len all ∙ ap (λ k. drop k all) (sym whole),
    )
