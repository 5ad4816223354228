-- What a word's texts are, digit by digit.
use Rattle.std.proofs.Common.{◌≡◌, ℕ, zero, suc, ◌+◌, ◌-◌, ◌<◌, refl, sym, arith, ap, ◌∙◌, length, get_or}
use Rattle.a429_word.specs.Word.{bit}
use Rattle.a429_view.specs.Word.{bits_text}

pub length-bits_text : (w n : ℕ) → length (bits_text w n) ≡ n
unfolding bits_text
length-bits_text w zero = refl
length-bits_text w (suc n) = ap suc (length-bits_text w n)

-- digit k is that of bit n - k
pub get_or-bits_text : (w n k : ℕ) → k < n → get_or (bits_text w n) k 0 ≡ 48 + bit w (n - k)
unfolding bits_text
get_or-bits_text w zero k h = absurd (omega arith)
get_or-bits_text w (suc n) zero h = let place : suc n - 0 ≡ suc n = omega arith in ap (λ i. 48 + bit w i) (sym place)
get_or-bits_text w (suc n) (suc k) h =
    let place : suc n - suc k ≡ n - k = omega arith in
    get_or-bits_text w n k (omega arith) ∙ ap (λ i. 48 + bit w i) (sym place)
