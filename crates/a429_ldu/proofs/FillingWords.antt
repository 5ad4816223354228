-- Full data words: label and type, the semi-octets between them, and the parity bit.
use Rattle.std.proofs.Common.{◌≡◌, ℕ, ◌+◌, ◌-◌, ◌*◌, ◌/◌, ◌%◌, ◌<◌, ◌≤◌, List, [], ◌∷◌, ◌++◌, length, take, drop, get_or, refl, sym, ap, ◌∙◌, arith, append_assoc, length-drop, length-take}
use Rattle.std.proofs.lemmas.List.{take_all}
use Rattle.std.specs.Int.{reverse_bits_onto}
use Rattle.a429_profile.specs.declared.codes.Codes.{Codes}
use Rattle.a429_profile.specs.Profile.{Contents, IsProfile}
use Rattle.a429_profile.proofs.ProfileRanges.{in_range}
use Rattle.a429_ldu.specs.declared.forms.Form.TheVariants.{Part}
use Rattle.a429_ldu.specs.Form.{with_parity_bit, label_bits, word_number}
use Rattle.a429_ldu.specs.Filling.{full_frame, data_words}
use Rattle.a429_ldu.proofs.FormMade.{label_bits-reversed, label_bits-lt}

-- ---- semi-octets above the frame

pub semis_put : (frame s w : ℕ) → s < 1048576 → w ≡ with_parity_bit (frame + s * 256 % 4294967296) → w ≡ with_parity_bit (frame + s * 256)
semis_put frame s w hs e = let kept : s * 256 % 4294967296 ≡ s * 256 = omega arith in e ∙ ap (λ m. with_parity_bit (frame + m)) kept

-- ---- label and type

pub record IsFrame (p : Contents) (frame : ℕ) : Type 0 where
  pub value : frame ≡ full_frame p.codes
  pub room : frame < 1879048448

pub frame_made : (p : Contents) → IsProfile p → (c : Codes) → c ≡ p.codes → (r l t : ℕ) → r ≡ reverse_bits_onto 8 c.to_sink 0 → l ≡ r
    → t ≡ c.full → IsFrame p (l + t * 268435456 % 4294967296)
frame_made p is c e r l t er el et =
    let range = in_range p is in
    let small = label_bits-lt p.codes.to_sink in
    let full : t ≡ p.codes.full = et ∙ ap (λ d. d.full) e in
    let label : l ≡ label_bits p.codes.to_sink =
    el ∙ er ∙ ap (λ d. reverse_bits_onto 8 d.to_sink 0) e ∙ sym (label_bits-reversed p.codes.to_sink) in
    let kept : t * 268435456 % 4294967296 ≡ t * 268435456 = omega (arith, range.full) in
    rw (kept, label, full) (record { value = refl; room = omega (arith, range.full) })

-- ---- five bytes make two words

abbrev firsts : List ℕ → List ℕ
firsts xs = get_or xs 0 0 ∷ get_or xs 1 0 ∷ get_or xs 2 0 ∷ get_or xs 3 0 ∷ get_or xs 4 0 ∷ []

five_of : (xs : List ℕ) → length xs ≡ 5 → firsts xs ≡ xs
five_of [] h = absurd (omega arith)
five_of (a ∷ []) h = absurd (omega arith)
five_of (a ∷ b ∷ []) h = absurd (omega arith)
five_of (a ∷ b ∷ c ∷ []) h = absurd (omega arith)
five_of (a ∷ b ∷ c ∷ d ∷ []) h = absurd (omega arith)
five_of (a ∷ b ∷ c ∷ d ∷ e ∷ []) h = refl
five_of (a ∷ b ∷ c ∷ d ∷ e ∷ f ∷ xs) h = absurd (omega arith)

low_sum : (l t a b c : ℕ) → a < 256 → b < 256 → c < 256 → (n : ℕ) → (d : ℕ) → n ≡ a + b * 256 + c * 65536 + d * 16777216 →
    l + t * 268435456 + n % 1048576 * 256 ≡ l + (a % 16 + 16 * (a / 16)) * 256 + (b % 16 + 16 * (b / 16)) * 65536 + c % 16 * 16777216 + t
    * 268435456
low_sum l t a b c ha hb hc n d e = omega arith

high_sum : (l t a b c d e : ℕ) → a < 256 → b < 256 → c < 256 → d < 256 → (n : ℕ) → n ≡ a + b * 256 + c * 65536 + d * 16777216 →
    l + t * 268435456 + (n / 1048576 + e * 4096) * 256 ≡ l + (c / 16 + 16 * (d % 16)) * 256 + (d / 16 + 16 * (e % 16)) * 65536 + e / 16
    * 16777216 + t * 268435456
high_sum l t a b c d e ha hb hc hd n en =
    let high : n / 1048576 ≡ c / 16 + d * 16 = omega arith in
    let four : d ≡ d / 16 * 16 + d % 16 = omega arith in
    let five : e ≡ e / 16 * 16 + e % 16 = omega arith in omega arith

pub two_made : (codes : Codes) (xs : List ℕ) (frame n m v w : ℕ) → length xs ≡ 5 → get_or xs 0 0 < 256 → get_or xs 1 0 < 256
    → get_or xs 2 0 < 256 → get_or xs 3 0 < 256 → get_or xs 4 0 < 256 → frame ≡ full_frame codes →
    n ≡ get_or xs 0 0 + get_or xs 1 0 * 256 + get_or xs 2 0 * 65536 + get_or xs 3 0 * 16777216 → m ≡ get_or xs 4 0 * 4096
    → v ≡ with_parity_bit (frame + n % 1048576 * 256) → w ≡ with_parity_bit (frame + (n / 1048576 + m) * 256)
    → v ∷ w ∷ [] ≡ data_words codes xs
two_made codes xs frame n m v w size ha hb hc hd he ef en em ev ew =
    let a = get_or xs 0 0 in
    let b = get_or xs 1 0 in
    let c = get_or xs 2 0 in
    let d = get_or xs 3 0 in
    let e = get_or xs 4 0 in
    let l = label_bits codes.to_sink in
    let first : v ≡ word_number codes (Part (a % 16 ∷ a / 16 ∷ b % 16 ∷ b / 16 ∷ c % 16 ∷ [])) =
    ev ∙ ap (λ f. with_parity_bit (f + n % 1048576 * 256)) ef ∙ ap with_parity_bit (low_sum l codes.full a b c ha hb hc n d en) in
    let second : w ≡ word_number codes (Part (c / 16 ∷ d % 16 ∷ d / 16 ∷ e % 16 ∷ e / 16 ∷ [])) =
    ew ∙ ap (λ k. with_parity_bit (frame + (n / 1048576 + k) * 256)) em ∙ ap (λ f. with_parity_bit (f + (n / 1048576 + e * 4096) * 256)) ef
    ∙ ap with_parity_bit (high_sum l codes.full a b c d e ha hb hc hd n en) in
    ap (λ m. m ∷ w ∷ []) first ∙ ap (λ m. word_number codes (Part (a % 16 ∷ a / 16 ∷ b % 16 ∷ b / 16 ∷ c % 16 ∷ [])) ∷ m ∷ []) second
    ∙ ap (data_words codes) (five_of xs size)

-- two words more
two_on : (codes : Codes) (rest : List ℕ)
    → 5 ≤ length rest → data_words codes rest ≡ data_words codes (firsts rest) ++ data_words codes (drop 5 rest)
two_on codes [] h = absurd (omega arith)
two_on codes (a ∷ []) h = absurd (omega arith)
two_on codes (a ∷ b ∷ []) h = absurd (omega arith)
two_on codes (a ∷ b ∷ c ∷ []) h = absurd (omega arith)
two_on codes (a ∷ b ∷ c ∷ d ∷ []) h = absurd (omega arith)
two_on codes (a ∷ b ∷ c ∷ d ∷ e ∷ rest) h = refl

pub two_more : (codes : Codes) (done mid words rest made total : List ℕ) (x y : ℕ) → 5 ≤ length rest → made ≡ data_words codes (firsts rest)
    → mid ≡ done ++ get_or made 0 x ∷ [] → words ≡ mid ++ get_or made 1 y ∷ [] → done ++ data_words codes rest ≡ total →
    words ++ data_words codes (take (length rest - 5) (drop 5 rest)) ≡ total
two_more codes done mid words rest made total x y size two em ew e =
    let later = drop 5 rest in
    let all : take (length rest - 5) later ≡ later = take_all (length rest - 5) later (omega (arith, length-drop 5 rest)) in
    let both : done ++ get_or made 0 x ∷ get_or made 1 y ∷ [] ≡ done ++ data_words codes (firsts rest) =
    ap (λ ws. done ++ get_or ws 0 x ∷ get_or ws 1 y ∷ []) two in
    ap (λ xs. words ++ data_words codes xs) all
    ∙ ap (λ ws. ws ++ data_words codes later)
    (ew ∙ ap (λ ws. ws ++ get_or made 1 y ∷ []) em ∙ append_assoc done (get_or made 0 x ∷ []) (get_or made 1 y ∷ []) ∙ both)
    ∙ append_assoc done (data_words codes (firsts rest)) (data_words codes later) ∙ ap (λ ws. done ++ ws) (sym (two_on codes rest size)) ∙ e

pub most_left : (rest : List ℕ) → length rest ≤ 632 → length (take (length rest - 5) (drop 5 rest)) ≤ 632
most_left rest h = omega (arith, length-take (length rest - 5) (drop 5 rest), length-drop 5 rest)
