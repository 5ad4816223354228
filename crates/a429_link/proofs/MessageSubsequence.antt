-- Words that are some of others, in order.
use Rattle.std.proofs.Common.{◌≡◌, ◌⊎◌, ℕ, zero, suc, ◌≤◌, List, [], ◌∷◌, ◌++◌, map, length, Some, slice_get, refl, sym, ap, subst, inl, inr, arith}
use Rattle.a429_link.proofs.Message.{Eot, Part, Message, Sot}
use Rattle.a429_link.specs.Run.{IsSubsequenceOf}
use Rattle.a429_link.proofs.Subsequence.{sub_length}

-- the word at a place of a front and one more
pub get_front : (k : ℕ) (w e : Message) (ys : List Message)
    → slice_get (ys ++ e ∷ []) k ≡ Some w → ((suc k ≤ length ys) × (slice_get ys k ≡ Some w)) ⊎ ((k ≡ length ys) × (w ≡ e))
get_front zero w e [] h = inr (refl, cc)
get_front (suc k) w e [] h = absurd (cc h)
get_front zero w e (y ∷ ys) h = inl (omega arith, h)
get_front (suc k) w e (y ∷ ys) h =
    elim (get_front k w e ys h) [ inl (l, g) ↦ inl (omega arith, g) | inr (l, g) ↦ inr (ap suc l, g) ]

-- what holds of each word
abbrev pub Each : (Message → Type 0) → List Message → Type 0
Each P [] = Unit {0}
Each P (x ∷ xs) = P x × Each P xs

pub sub_each : (P : Message → Type 0) (xs ys : List Message) → IsSubsequenceOf xs ys → Each P ys → Each P xs
sub_each P xs [] h e = rw h tt
sub_each P xs (y ∷ ys) (inl h) e = sub_each P xs ys h e.1
sub_each P xs (y ∷ ys) (inr (zs, q, h)) e = rw q (e.0, sub_each P zs ys h e.1)

pub each_at : (P : Message → Type 0) (xs : List Message) (w : Message) (ys : List Message) → Each P (xs ++ w ∷ ys) → P w
each_at P [] w ys h = h.0
each_at P (x ∷ xs) w ys h = each_at P xs w ys h.1

pub each_push : (P : Message → Type 0) (xs : List Message) (w : Message) → Each P xs → P w → Each P (xs ++ w ∷ [])
each_push P [] w h q = (q, tt)
each_push P (x ∷ xs) w h q = (h.0, each_push P xs w h.1 q)

-- a start word or a data word
abbrev pub IsFrontWord : Message → Type 0
IsFrontWord (Sot g f l) = Unit {0}
IsFrontWord (Part s) = Unit {0}
IsFrontWord _ = ⊥

abbrev pub IsBlockWord : Message → Type 0
IsBlockWord (Sot g f l) = Unit {0}
IsBlockWord (Part s) = Unit {0}
IsBlockWord (Eot f c) = Unit {0}
IsBlockWord _ = ⊥

pub parts_front : (ps : List ℕ) → Each IsFrontWord (map Part ps)
parts_front [] = tt
parts_front (s ∷ ps) = (tt, parts_front ps)

pub parts_block : (ps : List ℕ) → Each IsBlockWord (map Part ps)
parts_block [] = tt
parts_block (s ∷ ps) = (tt, parts_block ps)

-- an end word among words that end by one: nothing comes behind it
pub sub_end : (f c : ℕ) (e : Message) (xs rest ys : List Message)
    → Each IsFrontWord ys → IsSubsequenceOf (xs ++ Eot f c ∷ rest) (ys ++ e ∷ []) → (Eot f c ≡ e) × (rest ≡ []) × IsSubsequenceOf xs ys
sub_end f c e [] rest [] a (inl h) = absurd (cc h)
sub_end f c e [] rest [] a (inr (zs, q, h)) = (cc, cc, refl)
sub_end f c e (x ∷ xs) rest [] a (inl h) = absurd (cc h)
sub_end f c e (x ∷ []) rest [] a (inr (zs, q, h)) = let k : Eot f c ∷ rest ≡ [] = cc in absurd (cc k)
sub_end f c e (x ∷ (x' ∷ xs)) rest [] a (inr (zs, q, h)) = let k : x' ∷ (xs ++ Eot f c ∷ rest) ≡ [] = cc in absurd (cc k)
sub_end f c e xs rest (y ∷ ys) a (inl h) = let r = sub_end f c e xs rest ys a.1 h in (r.0, r.1, inl r.2)
sub_end f c e [] rest (y ∷ ys) a (inr (zs, q, h)) = let k : Eot f c ≡ y = cc in absurd (subst IsFrontWord (sym k) a.0)
sub_end f c e (x ∷ xs) rest (y ∷ ys) a (inr (zs, q, h)) =
    let same : zs ≡ xs ++ Eot f c ∷ rest = cc in
    let r = sub_end f c e xs rest ys a.1 (subst (λ l. IsSubsequenceOf l (ys ++ e ∷ [])) same h) in
    let head : x ≡ y = cc in
    (r.0, r.1, inr (xs, ap (λ (z : Message). z ∷ xs) head, r.2))

-- words without an end word
pub sub_no_end : (f c : ℕ) (xs ys : List Message) → Each IsFrontWord xs → IsSubsequenceOf xs (ys ++ Eot f c ∷ []) → IsSubsequenceOf xs ys
sub_no_end f c xs [] a (inl h) = h
sub_no_end f c xs [] a (inr (zs, q, h)) = absurd ((subst (Each IsFrontWord) q a).0)
sub_no_end f c xs (y ∷ ys) a (inl h) = inl (sub_no_end f c xs ys a h)
sub_no_end f c xs (y ∷ ys) a (inr (zs, q, h)) = inr (zs, q, sub_no_end f c zs ys ((subst (Each IsFrontWord) q a).1) h)

pub length-parts : (l : List ℕ) → length (map Part l) ≡ length l
length-parts [] = refl
length-parts (s ∷ l) = ap suc (length-parts l)

-- as many data words are all of them
pub same_parts : (ps qs : List ℕ) → length ps ≡ length qs → IsSubsequenceOf (map Part ps) (map Part qs) → ps ≡ qs
same_parts [] [] n h = refl
same_parts (s ∷ ps) [] n h = absurd (omega arith)
same_parts [] (t ∷ qs) n h = absurd (omega arith)
same_parts (s ∷ ps) (t ∷ qs) n (inl h) =
    absurd (omega (arith, sub_length (map Part (s ∷ ps)) (map Part qs) h, length-parts (s ∷ ps), length-parts qs))
same_parts (s ∷ ps) (t ∷ qs) n (inr (zs, q, h)) =
    let same : zs ≡ map Part ps = cc in
    let head : s ≡ t = cc in
    let len : length ps ≡ length qs = omega arith in
    let tail = same_parts ps qs len (subst (λ l. IsSubsequenceOf l (map Part qs)) same h) in
    cc

-- the start word is the only one
pub sub_start : (g f l g' f' l' : ℕ) (ps qs : List ℕ) → IsSubsequenceOf (Sot g f l ∷ map Part ps) (Sot g' f' l' ∷ map Part qs)
    → (f ≡ f') × (l ≡ l') × IsSubsequenceOf (map Part ps) (map Part qs) × (g ≡ g')
sub_start g f l g' f' l' ps qs (inl h) = absurd (no_start qs h)
  where
    no_start : (qs : List ℕ) → IsSubsequenceOf (Sot g f l ∷ map Part ps) (map Part qs) → ⊥
    no_start [] h = cc h
    no_start (t ∷ qs) (inl h) = no_start qs h
    no_start (t ∷ qs) (inr (zs, q, h)) = cc q
sub_start g f l g' f' l' ps qs (inr (zs, q, h)) =
    let same : zs ≡ map Part ps = cc in
    (cc, cc, subst (λ x. IsSubsequenceOf x (map Part qs)) same h, cc)
