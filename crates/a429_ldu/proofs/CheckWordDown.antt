-- A register whose bits stand in the other order, and what bytes make of it by tables.
use Rattle.std.proofs.Common.{◌≡◌, ℕ, get_or, length, ◌++◌, zero, suc, ◌+◌, ◌*◌, ◌/◌, ◌%◌, ◌^◌, ◌<◌, cond, eqb, refl, sym, ap, ◌∙◌, arith, bit_and, bit_xor, fold, replicate, List, [], ◌∷◌, true, false, Bool, pow-suc}
use Rattle.std.specs.Int.{bit_at, reverse_bits_onto}
use Rattle.std.specs.List.{flat_map, AllByRecursion}
use Rattle.std.proofs.lemmas.Grind.{fold-append}
use Rattle.std.proofs.lemmas.Nat.{xor_mod, xor_shr, xor_block, xor_comm, and_mask, mod-pow-add}
use Rattle.std.specs.Int.Bits.{xor_assoc, xor_self, xor_zero_r, xor_shifted}
use Rattle.std.proofs.lemmas.Nat.Bits.{bit_at_xor, bit_at-suc}
use Rattle.a429_profile.specs.CheckTables.{turned, fed_down, after_zeros}
use Rattle.a429_ldu.specs.CheckWord.{fed_bits, fed}

pub by_tests : (s t a b p : ℕ) → s < 2 → t < 2
    → cond (eqb ((s + t) % 2) 1) (bit_xor (bit_xor a b) p) (bit_xor a b)
    ≡ bit_xor (cond (eqb s 1) (bit_xor a p) a) (cond (eqb t 1) (bit_xor b p) b)
by_tests zero zero a b p h k = refl
by_tests zero (suc zero) a b p h k = xor_assoc a b p
by_tests (suc zero) zero a b p h k = xor_assoc a b p ∙ ap (bit_xor a) (xor_comm b p) ∙ sym (xor_assoc a p b)
by_tests (suc zero) (suc zero) a b p h k =
    sym (xor_assoc a p (bit_xor b p)
    ∙ ap (bit_xor a) (xor_comm p (bit_xor b p) ∙ xor_assoc b p p ∙ ap (bit_xor b) (xor_self p) ∙ xor_zero_r b))
by_tests (suc (suc s)) t a b p h k = absurd (omega arith)
by_tests zero (suc (suc t)) a b p h k = absurd (omega arith)
by_tests (suc zero) (suc (suc t)) a b p h k = absurd (omega arith)

-- ---- a step

-- a step of an exclusive or
fed_down-xor : (p a b f g h : ℕ) → h ≡ (f + g) % 2 → fed_down p (bit_xor a b) h ≡ bit_xor (fed_down p a f) (fed_down p b g)
fed_down-xor p a b f g h e =
    let s = (a + f) % 2 in
    let t = (b + g) % 2 in
    let lowest = bit_at_xor a b 0 in
    let test : (bit_xor a b + h) % 2 ≡ (s + t) % 2 = omega arith in
    rw (test, xor_shr a b 1) (by_tests s t (a / 2) (b / 2) p (omega arith) (omega arith))

-- a step where the test fails
quiet : (p r f : ℕ) → (r + f) % 2 ≡ 0 → fed_down p r f ≡ r / 2
quiet p r f e = ap (λ t. cond (eqb t 1) (bit_xor (r / 2) p) (r / 2)) e

-- ---- bits that are fed can stand in the register already

abbrev low_bits : ℕ → ℕ → List ℕ
low_bits zero n = []
low_bits (suc k) n = bit_at n 0 ∷ low_bits k (n / 2)

fed_into : (k p r v : ℕ) → v < 2 ^ k → fold (fed_down p) r (low_bits k v) ≡ fold (fed_down p) (bit_xor r v) (replicate k 0)
fed_into zero p r v h = let none : v ≡ 0 = omega arith in sym (ap (bit_xor r) none ∙ xor_zero_r r)
fed_into (suc k) p r v h =
    let twice : 2 ^ suc k ≡ 2 ^ k * 2 = pow-suc 2 k in
    let half : fed_down p v (bit_at v 0) ≡ v / 2 = quiet p v (bit_at v 0) (omega arith) in
    fed_into k p (fed_down p r (bit_at v 0)) (v / 2) (omega arith)
    ∙ ap (λ s. fold (fed_down p) s (replicate k 0))
    (sym (fed_down-xor p r v (bit_at v 0) (bit_at v 0) 0 (omega arith) ∙ ap (bit_xor (fed_down p r (bit_at v 0))) half))

-- bits above those that are fed only move
moves : (k p x i : ℕ) → fold (fed_down p) (bit_xor (x * 2 ^ k) i) (replicate k 0) ≡ bit_xor (fold (fed_down p) i (replicate k 0)) x
moves zero p x i = let e : x * 1 ≡ x = omega arith in ap (λ y. bit_xor y i) e ∙ xor_comm x i
moves (suc k) p x i =
    let twice : x * 2 ^ suc k ≡ x * 2 ^ k * 2 = rw pow-suc (omega arith) in
    let half : fed_down p (x * 2 ^ suc k) 0 ≡ x * 2 ^ k = quiet p (x * 2 ^ suc k) 0 (omega arith) ∙ omega arith in
    ap (λ s. fold (fed_down p) s (replicate k 0)) (fed_down-xor p (x * 2 ^ suc k) i 0 0 0 refl ∙ ap (λ y. bit_xor y (fed_down p i 0)) half)
    ∙ moves k p x (fed_down p i 0)

-- bits 0 that are fed to an exclusive or
zeros-xor : (k p a b : ℕ)
    → fold (fed_down p) (bit_xor a b) (replicate k 0) ≡ bit_xor (fold (fed_down p) a (replicate k 0)) (fold (fed_down p) b (replicate k 0))
zeros-xor zero p a b = refl
zeros-xor (suc k) p a b =
    ap (λ s. fold (fed_down p) s (replicate k 0)) (fed_down-xor p a b 0 0 0 refl) ∙ zeros-xor k p (fed_down p a 0) (fed_down p b 0)

low_bits-8 : (n : ℕ) → low_bits 8 n ≡ fed_bits true n
low_bits-8 n =
    let e1 : bit_at (n / 2) 0 ≡ bit_at n 1 = omega arith in
    let e2 : bit_at (n / 2 / 2) 0 ≡ bit_at n 2 = omega arith in
    let e3 : bit_at (n / 2 / 2 / 2) 0 ≡ bit_at n 3 = omega arith in
    let e4 : bit_at (n / 2 / 2 / 2 / 2) 0 ≡ bit_at n 4 = omega arith in
    let e5 : bit_at (n / 2 / 2 / 2 / 2 / 2) 0 ≡ bit_at n 5 = omega arith in
    let e6 : bit_at (n / 2 / 2 / 2 / 2 / 2 / 2) 0 ≡ bit_at n 6 = omega arith in
    let e7 : bit_at (n / 2 / 2 / 2 / 2 / 2 / 2 / 2) 0 ≡ bit_at n 7 = omega arith in
    rw (e1, e2, e3, e4, e5, e6, e7) refl

-- the register after bytes, the lowest bit of each first
abbrev after_all : ℕ → ℕ → List ℕ → ℕ
after_all p r bytes = fold (fed_down p) r (flat_map (fed_bits true) bytes)

-- a byte is fed as bits 0 are, once it is in the register
pub byte_in : (p r v : ℕ) → v < 256 → fold (fed_down p) r (fed_bits true v) ≡ after_zeros p 1 (bit_xor r v)
byte_in p r v h = ap (fold (fed_down p) r) (sym (low_bits-8 v)) ∙ fed_into 8 p r v h

-- the low half of a register, and the high one
halves : (r : ℕ) → r ≡ bit_xor (r / 256 * 2 ^ 8) (bit_and r 255)
halves r = omega arith ∙ sym (xor_shifted (r / 256) 8 (r % 256) (omega arith)) ∙ ap (bit_xor (r / 256 * 2 ^ 8)) (sym (and_mask r 8))

-- of what was in the register, eight bits 0 move the high half down
half_moves : (p r : ℕ) → after_zeros p 1 r ≡ bit_xor (after_zeros p 1 (bit_and r 255)) (r / 256)
half_moves p r = ap (after_zeros p 1) (halves r) ∙ moves 8 p (r / 256) (bit_and r 255)

-- a byte, by a table
pub by_table : (p r v i e : ℕ)
    → v < 256 → i ≡ bit_xor (bit_and r 255) v → e ≡ after_zeros p 1 i → bit_xor e (r / 256) ≡ fold (fed_down p) r (fed_bits true v)
by_table p r v i e h ei ee =
    let a = after_zeros p 1 (bit_and r 255) in
    let b = after_zeros p 1 v in
    sym (byte_in p r v h ∙ zeros-xor 8 p r v ∙ ap (λ y. bit_xor y b) (half_moves p r) ∙ xor_assoc a (r / 256) b
    ∙ ap (bit_xor a) (xor_comm (r / 256) b) ∙ sym (xor_assoc a b (r / 256))
    ∙ ap (λ y. bit_xor y (r / 256)) (sym (zeros-xor 8 p (bit_and r 255) v) ∙ ap (after_zeros p 1) (sym ei) ∙ sym ee))

-- ---- several bytes

bytes-xor : (n p a b : ℕ) → after_zeros p n (bit_xor a b) ≡ bit_xor (after_zeros p n a) (after_zeros p n b)
bytes-xor zero p a b = refl
bytes-xor (suc n) p a b = ap (after_zeros p 1) (bytes-xor n p a b) ∙ zeros-xor 8 p (after_zeros p n a) (after_zeros p n b)

first_byte : (n p r : ℕ) → after_zeros p n (after_zeros p 1 r) ≡ after_zeros p (suc n) r
first_byte zero p r = refl
first_byte (suc n) p r = ap (after_zeros p 1) (first_byte n p r)

-- what each byte makes, all exclusive-ored, onto a number
abbrev summed : ℕ → ℕ → List ℕ → ℕ
summed p a [] = a
summed p a (b ∷ bs) = summed p (bit_xor a (after_zeros p (suc (length bs)) b)) bs

-- what was in the register moves as if bytes 0 were fed
all-summed : (p r : ℕ) (bs : List ℕ) → AllByRecursion (λ b. b < 256) bs → after_all p r bs ≡ summed p (after_zeros p (length bs) r) bs
all-summed p r [] h = refl
all-summed p r (b ∷ bs) h =
    let n = length bs in
    fold-append (fed_down p) r (fed_bits true b) (flat_map (fed_bits true) bs)
    ∙ ap (λ s. after_all p s bs) (byte_in p r b h.0)
    ∙ all-summed p (after_zeros p 1 (bit_xor r b)) bs h.1
    ∙ ap (λ y. summed p y bs) (first_byte n p (bit_xor r b) ∙ bytes-xor (suc n) p r b)

-- two bytes and more: the first two are put together with the halves of the register
pub by_tables : (p r v w i j : ℕ) (bs : List ℕ)
    → AllByRecursion (λ b. b < 256) (v ∷ w ∷ bs) → i ≡ bit_xor (bit_and r 255) v → j ≡ bit_xor (r / 256) w →
    summed p (bit_xor (after_zeros p (suc (suc (length bs))) i) (after_zeros p (suc (length bs)) j)) bs ≡ after_all p r (v ∷ w ∷ bs)
by_tables p r v w i j bs h ei ej =
    let n = length bs in
    let low = bit_and r 255 in
    let high = r / 256 in
    let z = after_zeros p (suc (suc n)) in
    let y = after_zeros p (suc n) in
    let parts : z r ≡ bit_xor (z low) (y high) = sym (first_byte (suc n) p r) ∙ ap y (half_moves p r)
    ∙ bytes-xor (suc n) p (after_zeros p 1 low) high ∙ ap (λ x. bit_xor x (y high)) (first_byte (suc n) p low) in
    let both : bit_xor (bit_xor (z r) (z v)) (y w) ≡ bit_xor (z i) (y j) =
    ap (λ x. bit_xor (bit_xor x (z v)) (y w)) parts
    ∙ ap (λ x. bit_xor x (y w))
    (xor_assoc (z low) (y high) (z v) ∙ ap (bit_xor (z low)) (xor_comm (y high) (z v)) ∙ sym (xor_assoc (z low) (z v) (y high)))
    ∙ xor_assoc (bit_xor (z low) (z v)) (y high) (y w)
    ∙ ap (λ x. bit_xor x (bit_xor (y high) (y w))) (sym (bytes-xor (suc (suc n)) p low v) ∙ ap z (sym ei))
    ∙ ap (bit_xor (z i)) (sym (bytes-xor (suc n) p high w) ∙ ap y (sym ej)) in
    sym (all-summed p r (v ∷ w ∷ bs) h ∙ ap (λ x. summed p x bs) both)

-- ---- eight bytes

abbrev firsts : List ℕ → List ℕ
firsts xs =
    get_or xs 0 0 ∷ get_or xs 1 0 ∷ get_or xs 2 0 ∷ get_or xs 3 0 ∷ get_or xs 4 0 ∷ get_or xs 5 0 ∷ get_or xs 6 0 ∷ get_or xs 7 0 ∷ []

eight_of : (xs : List ℕ) → length xs ≡ 8 → firsts xs ≡ xs
eight_of [] h = absurd (omega arith)
eight_of (a ∷ []) h = absurd (omega arith)
eight_of (a ∷ b ∷ []) h = absurd (omega arith)
eight_of (a ∷ b ∷ c ∷ []) h = absurd (omega arith)
eight_of (a ∷ b ∷ c ∷ d ∷ []) h = absurd (omega arith)
eight_of (a ∷ b ∷ c ∷ d ∷ e ∷ []) h = absurd (omega arith)
eight_of (a ∷ b ∷ c ∷ d ∷ e ∷ f ∷ []) h = absurd (omega arith)
eight_of (a ∷ b ∷ c ∷ d ∷ e ∷ f ∷ g ∷ []) h = absurd (omega arith)
eight_of (a ∷ b ∷ c ∷ d ∷ e ∷ f ∷ g ∷ i ∷ []) h = refl
eight_of (a ∷ b ∷ c ∷ d ∷ e ∷ f ∷ g ∷ i ∷ j ∷ xs) h = absurd (omega arith)

-- the table entries of eight bytes
pub by_eight : (p r i j : ℕ) (xs : List ℕ) (e1 e2 e3 e4 e5 e6 e7 e8 : ℕ) → length xs ≡ 8 → AllByRecursion (λ b. b < 256) (firsts xs)
    → i ≡ bit_xor (bit_and r 255) (get_or xs 0 0) → j ≡ bit_xor (r / 256) (get_or xs 1 0)
    → e1 ≡ after_zeros p 8 i → e2 ≡ after_zeros p 7 j → e3 ≡ after_zeros p 6 (get_or xs 2 0) → e4 ≡ after_zeros p 5 (get_or xs 3 0)
    → e5 ≡ after_zeros p 4 (get_or xs 4 0) → e6 ≡ after_zeros p 3 (get_or xs 5 0) → e7 ≡ after_zeros p 2 (get_or xs 6 0)
    → e8 ≡ after_zeros p 1 (get_or xs 7 0)
    → bit_xor (bit_xor (bit_xor (bit_xor (bit_xor (bit_xor (bit_xor e1 e2) e3) e4) e5) e6) e7) e8
    ≡ fold (fed_down p) r (flat_map (fed_bits true) xs)
by_eight p r i j xs e1 e2 e3 e4 e5 e6 e7 e8 size all ei ej h1 h2 h3 h4 h5 h6 h7 h8 =
    rw (h1, h2, h3, h4, h5, h6, h7, h8)
    (by_tables p r (get_or xs 0 0) (get_or xs 1 0) i j
    (get_or xs 2 0 ∷ get_or xs 3 0 ∷ get_or xs 4 0 ∷ get_or xs 5 0 ∷ get_or xs 6 0 ∷ get_or xs 7 0 ∷ []) all ei ej
    ∙ ap (after_all p r) (eight_of xs size))

-- eight bytes, each with the bits of another
pub eight_same : (f g : ℕ → List ℕ) (xs : List ℕ) (o1 o2 o3 o4 o5 o6 o7 o8 : ℕ) → length xs ≡ 8 → f o1 ≡ g (get_or xs 0 0)
    → f o2 ≡ g (get_or xs 1 0) → f o3 ≡ g (get_or xs 2 0) → f o4 ≡ g (get_or xs 3 0)
    → f o5 ≡ g (get_or xs 4 0) → f o6 ≡ g (get_or xs 5 0) → f o7 ≡ g (get_or xs 6 0) → f o8 ≡ g (get_or xs 7 0)
    → flat_map f (o1 ∷ o2 ∷ o3 ∷ o4 ∷ o5 ∷ o6 ∷ o7 ∷ o8 ∷ []) ≡ flat_map g xs
eight_same f g xs o1 o2 o3 o4 o5 o6 o7 o8 size h1 h2 h3 h4 h5 h6 h7 h8 =
    let made : f o1 ++ (f o2 ++ (f o3 ++ (f o4 ++ (f o5 ++ (f o6 ++ (f o7 ++ (f o8 ++ []))))))) ≡ flat_map g (firsts xs) =
    rw (h1, h2, h3, h4, h5, h6, h7, h8) refl in
    made ∙ ap (flat_map g) (eight_of xs size)

-- ---- the other order of bits

turned-xor : (k a b c d : ℕ) → reverse_bits_onto k (bit_xor a b) (bit_xor c d) ≡ bit_xor (reverse_bits_onto k a c) (reverse_bits_onto k b d)
unfolding reverse_bits_onto
turned-xor zero a b c d = refl
turned-xor (suc k) a b c d =
    let more : bit_xor c d * 2 + bit_xor a b % 2 ≡ bit_xor (c * 2 + a % 2) (d * 2 + b % 2) =
    ap (λ y. bit_xor c d * 2 + y) (xor_mod a b 1) ∙ sym (xor_block 1 c d (a % 2) (b % 2) (omega arith) (omega arith)) in
    rw (xor_shr a b 1, more) (turned-xor k (a / 2) (b / 2) (c * 2 + a % 2) (d * 2 + b % 2))

-- the last bit
turned-last : (k n a : ℕ) → reverse_bits_onto (suc k) n a ≡ reverse_bits_onto k n a * 2 + bit_at n k
unfolding reverse_bits_onto
turned-last zero n a = omega arith
turned-last (suc k) n a =
    turned-last k (n / 2) (a * 2 + n % 2) ∙ ap (λ b. reverse_bits_onto k (n / 2) (a * 2 + n % 2) * 2 + b) (sym (bit_at-suc n k))

-- only the lowest bits are turned
turned-mod : (k n a : ℕ) → reverse_bits_onto k (n % 2 ^ k) a ≡ reverse_bits_onto k n a
unfolding reverse_bits_onto
turned-mod zero n a = refl
turned-mod (suc k) n a =
    let twice : 2 ^ suc k ≡ 2 ^ k * 2 = pow-suc 2 k in
    let split = mod-pow-add n k 1 in
    let one : k + 1 ≡ suc k = omega arith in
    let whole : n % 2 ^ suc k ≡ n / 2 % 2 ^ k * 2 + n % 2 = ap (λ j. n % 2 ^ j) (sym one) ∙ split in
    let half : n % 2 ^ suc k / 2 ≡ n / 2 % 2 ^ k = omega arith in
    let rest : n % 2 ^ suc k % 2 ≡ n % 2 = omega arith in
    rw (half, rest) (turned-mod k (n / 2) (a * 2 + n % 2))

turned-twice : (k n a : ℕ) → reverse_bits_onto k (reverse_bits_onto k n 0) a ≡ a * 2 ^ k + n % 2 ^ k
unfolding reverse_bits_onto
turned-twice zero n a = omega arith
turned-twice (suc k) n a =
    let r = reverse_bits_onto k n 0 in
    let b = bit_at n k in
    let one : 1 + k ≡ suc k = omega arith in
    let twice : 2 ^ suc k ≡ 2 ^ k * 2 = pow-suc 2 k in
    let whole : n % 2 ^ suc k ≡ b * 2 ^ k + n % 2 ^ k = ap (λ j. n % 2 ^ j) (sym one) ∙ mod-pow-add n 1 k in
    let half : (r * 2 + b) / 2 ≡ r = omega arith in
    let rest : (r * 2 + b) % 2 ≡ b = omega arith in
    ap (λ m. reverse_bits_onto k (m / 2) (a * 2 + m % 2)) (turned-last k n 0)
    ∙ ap (λ m. reverse_bits_onto k m (a * 2 + (r * 2 + b) % 2)) half ∙ ap (λ m. reverse_bits_onto k r (a * 2 + m)) rest
    ∙ turned-twice k n (a * 2 + b) ∙ rw (whole, twice) (omega arith)

turned-doubled : (r : ℕ) → reverse_bits_onto 16 (r * 2) 0 ≡ reverse_bits_onto 15 r 0
unfolding reverse_bits_onto
turned-doubled r =
    let e : r * 2 / 2 ≡ r = omega arith in
    let z : r * 2 % 2 ≡ 0 = omega arith in rw (e, z) refl

turned-moved : (r : ℕ) → turned (r * 2 % 65536) ≡ turned r / 2
turned-moved r = let last = turned-last 15 r 0 in turned-mod 16 (r * 2) 0 ∙ turned-doubled r ∙ omega arith

turned-lowest : (r : ℕ) → turned r % 2 ≡ bit_at r 15
turned-lowest r = let last = turned-last 15 r 0 in omega arith

turned-fed : (p r b : ℕ) → turned (fed p r b) ≡ fed_down (turned p) (turned r) b
turned-fed p r b =
    let lowest = turned-lowest r in
    let test : (bit_at r 15 + b) % 2 ≡ (turned r + b) % 2 = omega arith in
    ap (λ t. turned (cond (eqb t 1) (bit_xor (r * 2 % 65536) p) (r * 2 % 65536))) test ∙ by_test (eqb ((turned r + b) % 2) 1)
  where
    by_test : (t : Bool)
        → turned (cond t (bit_xor (r * 2 % 65536) p) (r * 2 % 65536)) ≡ cond t (bit_xor (turned r / 2) (turned p)) (turned r / 2)
    by_test true = turned-xor 16 (r * 2 % 65536) p 0 0 ∙ ap (λ m. bit_xor m (turned p)) (turned-moved r)
    by_test false = turned-moved r

-- it ends as the register does
pub turned-fold : (p r : ℕ) (bs : List ℕ) → fold (fed_down (turned p)) (turned r) bs ≡ turned (fold (fed p) r bs)
turned-fold p r [] = refl
turned-fold p r (b ∷ bs) = ap (λ s. fold (fed_down (turned p)) s bs) (sym (turned-fed p r b)) ∙ turned-fold p (fed p r b) bs

pub turned_back : (n : ℕ) → n < 65536 → turned (turned n) ≡ n
turned_back n h = turned-twice 16 n 0 ∙ omega arith
