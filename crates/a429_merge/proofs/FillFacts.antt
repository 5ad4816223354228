-- A free word before others.
use Rattle.std.proofs.Common.{◌≡◌, ℕ, zero, suc, ◌+◌, ◌-◌, ◌*◌, ◌/◌, ◌%◌, ◌^◌, ◌<◌, ◌≤◌, List, [], ◌∷◌, ◌++◌, length, replicate, take, Option, Some, None, Result, Ok, Err, IfOk, IfNone, ◌↔◌, option_map, option_and_then, bit_xor, refl, sym, ap, ◌∙◌, subst, arith, inl, inr, append_assoc, length-append}
use Rattle.std.specs.List.{AllByRecursion}
use Rattle.std.specs.Int.Bits.{xor_shifted, xor_zero_l}
use Rattle.std.proofs.lemmas.Nat.{pow-add}
use Rattle.std.proofs.lemmas.List.{length-replicate}
use Rattle.a429_profile.specs.Profile.{Contents, IsProfile}
use Rattle.a429_ldu.specs.declared.forms.Form.{Form}
use Rattle.a429_ldu.specs.declared.forms.Form.TheVariants.{Part}
use Rattle.a429_ldu.specs.Semis.{AreSemis}
use Rattle.a429_ldu.specs.Carried.{semis_in, joined_to, semis_of_words, paired, if_some, bytes_carried}
use Rattle.a429_ldu.specs.CheckWord.{check_of}
use Rattle.a429_ldu.proofs.FormFacts.{form_of-word_number}
use Rattle.a429_merge.specs.FreeBits.{with_bits}
use Rattle.a429_merge.specs.Fill.{Fits, IsFilled, CanBeFilled, HasNoFreeWord, HasOneByte, semis_of_number, data_word, rest_filled}
use Rattle.a429_merge.proofs.FreeBitsFacts.{bits-zero}
use Rattle.a429_merge.proofs.SubsequenceFacts.{sub_all, sub_before, sub_trans}

-- ---- bits of the first semi-octets are bits of the bytes

no_bits : (m : ℕ) (o : Option (List ℕ)) → m ≡ 0 → o ≡ option_map (with_bits m) o
no_bits m None e = refl
no_bits m (Some bs) e = ap Some (sym (ap (λ (n : ℕ). with_bits n bs) e ∙ bits-zero bs))

byte_bits : (o p : Option (List ℕ)) (x y m : ℕ) → x ≡ bit_xor y (m % 256) → o ≡ option_map (with_bits (m / 256)) p
    → option_map (λ bytes. x ∷ bytes) o ≡ option_map (with_bits m) (option_map (λ bytes. y ∷ bytes) p)
byte_bits o None x y m e h = ap (option_map (λ (bytes : List ℕ). x ∷ bytes)) h
byte_bits o (Some bs) x y m e h = ap (option_map (λ (bytes : List ℕ). x ∷ bytes)) h ∙ ap (λ (b : ℕ). Some (b ∷ with_bits (m / 256) bs)) e

more_bits : (n : ℕ) → 2 ^ (4 * suc n) ≡ 16 * 2 ^ (4 * n)
more_bits n =
    let four : 4 * suc n ≡ 4 + 4 * n = omega arith in
    ap (λ (k : ℕ). 2 ^ k) four ∙ pow-add 2 4 (4 * n)

fewer : (n m : ℕ) → m < 2 ^ (4 * suc n) → m / 16 < 2 ^ (4 * n)
fewer n m h = let more = more_bits n in omega arith

paired-bits : (size m : ℕ) (ts : List ℕ)
    → m < 2 ^ (4 * size) → paired (semis_of_number size m ++ ts) ≡ option_map (with_bits m) (paired (semis_of_number size 0 ++ ts))
paired-bits zero m ts h = no_bits m (paired ts) (omega arith)
paired-bits (suc zero) m [] h = refl
paired-bits (suc zero) m (t ∷ ts) h =
    let small : m < 16 = h in
    let low : m % 16 + 16 * t ≡ t * 2 ^ 4 + m = omega arith in
    let zeros : 0 + 16 * t ≡ t * 2 ^ 4 = omega arith in
    let all : m % 256 ≡ m = omega arith in
    byte_bits (paired ts) (paired ts) (m % 16 + 16 * t) (0 + 16 * t) m
    (low ∙ sym (ap (λ (n : ℕ). bit_xor n (m % 256)) zeros ∙ ap (bit_xor (t * 2 ^ 4)) all ∙ xor_shifted t 4 m small))
    (no_bits (m / 256) (paired ts) (omega arith))
paired-bits (suc (suc n)) m ts h =
    let once = fewer (suc n) m h in
    let twice = fewer n (m / 16) once in
    let both : m / 16 / 16 ≡ m / 256 = omega arith in
    let low : m % 16 + 16 * (m / 16 % 16) ≡ m % 256 = omega arith in
    byte_bits (paired (semis_of_number n (m / 16 / 16) ++ ts)) (paired (semis_of_number n 0 ++ ts)) (m % 16 + 16 * (m / 16 % 16)) 0 m
    (low ∙ sym (xor_zero_l (m % 256)))
    (paired-bits n (m / 16 / 16) ts twice ∙ ap (λ (k : ℕ). option_map (with_bits k) (paired (semis_of_number n 0 ++ ts))) both)

some-bits : (m : ℕ) (o : Option (List ℕ)) → if_some (option_map (with_bits m) o) ≡ option_map (with_bits m) (if_some o)
some-bits m None = refl
some-bits m (Some []) = refl
some-bits m (Some (b ∷ bs)) = refl

-- ---- semi-octets of numbers

abbrev number_of_semis : List ℕ → ℕ
number_of_semis [] = 0
number_of_semis (s ∷ ss) = s + 16 * number_of_semis ss

number-lt : (ss : List ℕ) → AllByRecursion (λ s. s < 16) ss → number_of_semis ss < 2 ^ (4 * length ss)
number-lt [] h = omega arith
number-lt (s ∷ ss) h =
    let rest = number-lt ss h.1 in
    let small : s < 16 = h.0 in
    let more = more_bits (length ss) in omega arith

semis-number : (ss : List ℕ) → AllByRecursion (λ s. s < 16) ss → semis_of_number (length ss) (number_of_semis ss) ≡ ss
semis-number [] h = refl
semis-number (s ∷ ss) h =
    let small : s < 16 = h.0 in
    let low : (s + 16 * number_of_semis ss) % 16 ≡ s = omega arith in
    let high : (s + 16 * number_of_semis ss) / 16 ≡ number_of_semis ss = omega arith in
    ap (λ (x : ℕ). x ∷ semis_of_number (length ss) ((s + 16 * number_of_semis ss) / 16)) low
    ∙ ap (λ (n : ℕ). s ∷ semis_of_number (length ss) n) high
    ∙ ap (λ (xs : List ℕ). s ∷ xs) (semis-number ss h.1)

length-semis : (size m : ℕ) → length (semis_of_number size m) ≡ size
length-semis zero m = refl
length-semis (suc size) m = ap suc (length-semis size (m / 16))

below-16 : (size m : ℕ) → AllByRecursion (λ s. s < 16) (semis_of_number size m)
below-16 zero m = tt
below-16 (suc size) m = (omega arith, below-16 size (m / 16))

pub are_semis : (size m : ℕ) → 1 ≤ size → size ≤ 5 → AreSemis (semis_of_number size m)
are_semis size m h k = (omega (arith, length-semis size m), omega (arith, length-semis size m), below-16 size m)

-- ---- the bytes of a free word and others

module _ (p : Contents) (is : IsProfile p) (rest : List ℕ) where
  carried-word : (s : List ℕ) → AreSemis s
      → bytes_carried p.codes (data_word p.codes s ∷ rest)
      ≡ if_some (option_and_then paired (joined_to (Some s) (semis_of_words p.codes rest)))
  carried-word s h =
      ap (λ (x : Option Form). if_some (option_and_then paired (joined_to (semis_in x) (semis_of_words p.codes rest))))
      (form_of-word_number p is (Part s) h)

  joined-bits : (size m : ℕ) (o : Option (List ℕ)) → m < 2 ^ (4 * size)
      → if_some (option_and_then paired (joined_to (Some (semis_of_number size m)) o))
      ≡ option_map (with_bits m) (if_some (option_and_then paired (joined_to (Some (semis_of_number size 0)) o)))
  joined-bits size m None h = refl
  joined-bits size m (Some ts) h = ap if_some (paired-bits size m ts h) ∙ some-bits m (paired (semis_of_number size 0 ++ ts))

  module _ (size : ℕ) (some : 1 ≤ size) (most : size ≤ 5) where
    pub carried-bits : (m : ℕ) → m < 2 ^ (4 * size)
        → bytes_carried p.codes (data_word p.codes (semis_of_number size m) ∷ rest)
        ≡ option_map (with_bits m) (bytes_carried p.codes (data_word p.codes (semis_of_number size 0) ∷ rest))
    carried-bits m h =
        carried-word (semis_of_number size m) (are_semis size m some most)
        ∙ joined-bits size m (semis_of_words p.codes rest) h
        ∙ ap (option_map (with_bits m)) (sym (carried-word (semis_of_number size 0) (are_semis size 0 some most)))

    -- each word of so many semi-octets is one of a number
    carried-semis : (s : List ℕ) → AreSemis s → length s ≡ size
        → bytes_carried p.codes (data_word p.codes s ∷ rest)
        ≡ option_map (with_bits (number_of_semis s)) (bytes_carried p.codes (data_word p.codes (semis_of_number size 0) ∷ rest))
    carried-semis s h e =
        let made : s ≡ semis_of_number size (number_of_semis s) =
        sym (ap (λ (n : ℕ). semis_of_number n (number_of_semis s)) (sym e) ∙ semis-number s h.2) in
        ap (λ (x : List ℕ). bytes_carried p.codes (data_word p.codes x ∷ rest)) made
        ∙ carried-bits (number_of_semis s) (subst (λ (n : ℕ). number_of_semis s < 2 ^ (4 * n)) e (number-lt s h.2))

    abbrev zeros : List ℕ
    zeros = data_word p.codes (semis_of_number size 0) ∷ rest

    pub none_fits : (wanted : Option ℕ)
        → bytes_carried p.codes zeros ≡ None → (s : List ℕ) → AreSemis s → length s ≡ size → ¬ Fits p wanted (data_word p.codes s ∷ rest)
    none_fits wanted none s h e f =
        let nothing : bytes_carried p.codes (data_word p.codes s ∷ rest) ≡ None =
        carried-semis s h e ∙ ap (option_map (with_bits (number_of_semis s))) none in
        absurd (cc (sym f.carried ∙ nothing))

    pub bits_fit : (bytes : List ℕ) (k m : ℕ) → bytes_carried p.codes zeros ≡ Some bytes → m < 2 ^ (4 * size)
        → check_of p.check (with_bits m bytes) ≡ k → Fits p (Some k) (data_word p.codes (semis_of_number size m) ∷ rest)
    bits_fit bytes k m e h is_wanted = record {
      bytes = with_bits m bytes;
      carried = carried-bits m h ∙ ap (option_map (with_bits m)) e;
      check = is_wanted;
    }

    pub no_bits_fit : (bytes : List ℕ) (k : ℕ)
        → bytes_carried p.codes zeros ≡ Some bytes → ((m : ℕ) → m < 2 ^ (4 * size) → ¬ (check_of p.check (with_bits m bytes) ≡ k))
        → (s : List ℕ) → AreSemis s → length s ≡ size → ¬ Fits p (Some k) (data_word p.codes s ∷ rest)
    no_bits_fit bytes k e none s h long f =
        let m = number_of_semis s in
        let made : Some f.bytes ≡ Some (with_bits m bytes) = sym f.carried ∙ carried-semis s h long ∙ ap (option_map (with_bits m)) e in
        let same : f.bytes ≡ with_bits m bytes = cc in
        none m (subst (λ (n : ℕ). m < 2 ^ (4 * n)) long (number-lt s h.2)) (ap (check_of p.check) (sym same) ∙ f.check)

-- ---- the whole

pub filled : (p : Contents) (wanted : Option ℕ) (count w : ℕ) (recorded : List ℕ) → length recorded < count
    → Fits p wanted (w ∷ rest_filled p.codes count recorded) → IsFilled p count wanted recorded (w ∷ rest_filled p.codes count recorded)
filled p wanted count w recorded h fits =
    let fillers = replicate (count - 1 - length recorded) (data_word p.codes (0 ∷ 0 ∷ [])) in
    record {
      long = omega (arith, length-append recorded fillers, length-replicate (count - 1 - length recorded) (data_word p.codes (0 ∷ 0 ∷ [])));
      kept = inl (sub_before recorded recorded fillers (sub_all recorded));
      fits = fits;
    }

-- bytes of data words, and their check word
pub fits_checked : (p : Contents) (words bytes : List ℕ) (k : ℕ)
    → bytes_carried p.codes words ≡ Some bytes → (k ≡ check_of p.check bytes) ↔ Fits p (Some k) words
fits_checked p words bytes k e = (
  (λ h. record { bytes = bytes; carried = e; check = sym h }),
  (λ f. let same : f.bytes ≡ bytes = cc (sym f.carried ∙ e) in sym (ap (check_of p.check) (sym same) ∙ f.check)),
)

-- the first of five semi-octets
pub first_semis : (size a b c d e : ℕ)
    → 1 ≤ size → size ≤ 5 → a < 16 → b < 16 → c < 16 → d < 16 → e < 16 → AreSemis (take size (a ∷ b ∷ c ∷ d ∷ e ∷ []))
first_semis zero a b c d e h k ha hb hc hd he = absurd (omega arith)
first_semis (suc zero) a b c d e h k ha hb hc hd he = (omega arith, omega arith, (ha, tt))
first_semis (suc (suc zero)) a b c d e h k ha hb hc hd he = (omega arith, omega arith, (ha, (hb, tt)))
first_semis (suc (suc (suc zero))) a b c d e h k ha hb hc hd he = (omega arith, omega arith, (ha, (hb, (hc, tt))))
first_semis (suc (suc (suc (suc zero)))) a b c d e h k ha hb hc hd he = (omega arith, omega arith, (ha, (hb, (hc, (hd, tt)))))
first_semis (suc (suc (suc (suc (suc zero))))) a b c d e h k ha hb hc hd he = (omega arith, omega arith, (ha, (hb, (hc, (hd, (he, tt))))))
first_semis (suc (suc (suc (suc (suc (suc n)))))) a b c d e h k ha hb hc hd he = absurd (omega arith)

-- a word, and then the others
pub word_before : (xs ys zs all rest : List ℕ) (w : ℕ) → xs ≡ [] → ys ≡ xs ++ w ∷ [] → zs ≡ ys ++ rest → all ≡ zs → all ≡ w ∷ rest
word_before xs ys zs all rest w e f g h = h ∙ g ∙ ap (λ (l : List ℕ). l ++ rest) (f ∙ ap (λ (l : List ℕ). l ++ w ∷ []) e)

-- one filler more
pub filler_more : (n w : ℕ) (rest new : List ℕ)
    → length rest < n → new ≡ rest ++ w ∷ [] → new ++ replicate (n - length new) w ≡ rest ++ replicate (n - length rest) w
filler_more n w rest new h e =
    let long : length new ≡ length rest + 1 = ap length e ∙ length-append rest (w ∷ []) in
    let more : n - length rest ≡ suc (n - length new) = omega arith in
    ap (λ (l : List ℕ). l ++ replicate (n - length new) w) e
    ∙ append_assoc rest (w ∷ []) (replicate (n - length new) w)
    ∙ ap (λ (k : ℕ). rest ++ replicate k w) (sym more)

pub whole : (p : Contents) (wanted : Option ℕ) (count : ℕ) (recorded words : List ℕ)
    → words ≡ recorded → length recorded ≡ count → Fits p wanted recorded → IsFilled p count wanted recorded words
whole p wanted count recorded words e h f = rw e (record { long = h; kept = sub_all recorded; fits = f })

-- ---- what cannot be filled up

-- words that neither fit nor are fewer, with a free word that makes them fit, cannot be filled up
pub not_filled : (p : Contents) (count : ℕ) (wanted : Option ℕ) (words : List ℕ) → (length words ≡ count → ¬ Fits p wanted words)
    → (length words < count → HasNoFreeWord p wanted (rest_filled p.codes count words)) → ¬ CanBeFilled p count wanted words
not_filled p count wanted words whole filled (inl h) = whole h.0 h.1
not_filled p count wanted words whole filled (inr h) = filled h.0 h.1.semis h.1.are h.1.fits

pub no_free_word : (p : Contents) (count : ℕ) (wanted : Option ℕ) (words : List ℕ)
    → ¬ CanBeFilled p count wanted words → length words < count → HasNoFreeWord p wanted (rest_filled p.codes count words)
no_free_word p count wanted words none few semis are fits = none (inr (few, record { semis = semis; are = are; fits = fits }))

-- ---- two data words of one byte together

-- words that have some before more have these
pub without_more : (p : Contents) (count : ℕ) (wanted : Option ℕ) (recorded more words : List ℕ)
    → IsFilled p count wanted (recorded ++ more) words → IsFilled p count wanted recorded words
without_more p count wanted recorded more words f = record {
  long = f.long;
  kept = sub_trans recorded (recorded ++ more) words (sub_before recorded recorded more (sub_all recorded)) f.kept;
  fits = f.fits;
}

pub if_none_from : {X : Type 0} (P Q : Type 0) (o : Option X) → (P → Q) → IfNone o P → IfNone o Q
if_none_from P Q (Some x) f p = tt
if_none_from P Q None f p = f p

pub ok_none : {X E : Type 0} (Q : Type 0) (r : Result (Option X) E) → Q → IfOk r (λ o. IfNone o Q)
ok_none Q (Ok (Some x)) q = tt
ok_none Q (Ok None) q = q
ok_none Q (Err e) q = tt

-- where no last word of one semi-octet, put after the recorded ones, can be filled up, nor can these by themselves, there are none
pub no_one_byte : (p : Contents) (wanted : Option ℕ) (recorded : List ℕ) → ¬ CanBeFilled p 2 wanted recorded
    → ((last : ℕ) → last < 16 → ¬ CanBeFilled p 2 wanted (recorded ++ data_word p.codes (last ∷ []) ∷ [])) → length recorded < 2
    → ¬ HasOneByte p wanted recorded
no_one_byte p wanted [] front after few one =
    after one.high one.is_high
    (inr (omega arith, record { semis = one.low ∷ []; are = (omega arith, omega arith, (one.is_low, tt)); fits = one.fits }))
no_one_byte p wanted (w ∷ []) front after few one = elim one.kept [
  | inr (zs, e, rest) ↦
      let same : w ≡ data_word p.codes (one.low ∷ []) = cc e in
      after one.high one.is_high
      (inl (refl, subst (λ (x : ℕ). Fits p wanted (x ∷ data_word p.codes (one.high ∷ []) ∷ [])) (sym same) one.fits))
  | inl (inr (zs, e, rest)) ↦
      let same : w ≡ data_word p.codes (one.high ∷ []) = cc e in
      front (inr (
        omega arith,
        record {
          semis = one.low ∷ [];
          are = (omega arith, omega arith, (one.is_low, tt));
          fits = subst (λ (x : ℕ). Fits p wanted (data_word p.codes (one.low ∷ []) ∷ x ∷ [])) (sym same) one.fits;
        },
      ))
  | inl (inl none) ↦ absurd (cc none)
]
no_one_byte p wanted (v ∷ w ∷ more) front after few one = absurd (omega arith)
