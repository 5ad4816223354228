-- The bytes that data words carry, word by word.
use Rattle.std.proofs.Common.{◌≡◌, ◌⊎◌, inl, inr, ℕ, zero, suc, ◌+◌, ◌*◌, ◌/◌, ◌%◌, ◌^◌, ◌<◌, ◌≤◌, true, false, List, [], ◌∷◌, ◌++◌, length, take, drop, take-append-drop, get_or, Option, Some, None, is_some, unwrap_or, refl, sym, ap, ◌∙◌, arith, subst, append_assoc, append-nil, bit_or, length-append}
use Rattle.std.specs.List.{AllByRecursion, concat}
use Rattle.std.specs.Option.{option_to_list, option_map, option_and_then}
use Rattle.std.proofs.lemmas.List.{take_more}
use Rattle.std.proofs.lemmas.Nat.{or_shifted}
use Rattle.std.proofs.lemmas.Option.{same_Some}
use Rattle.a429_word.specs.declared.bus.Bus.TheVariants as bus
use Rattle.a429_profile.specs.declared.codes.Codes.{Codes}
use Rattle.a429_profile.specs.Profile.{Contents, IsProfile}
use Rattle.a429_ldu.specs.declared.forms.Form.{Form}
use Rattle.a429_ldu.specs.declared.forms.Form.TheVariants.{Rts, Cts, Ack, Nak, Sot, Part, Eot}
use Rattle.a429_ldu.specs.Semis.{semis_of_bytes, five_of}
use Rattle.a429_ldu.specs.Form.{form_of}
use Rattle.a429_ldu.specs.Carried.{AreDataWords, Carries, CarryBytes, semis_in, joined_to, semis_of_words, paired, if_some, bytes_carried, semis_count, semis_in_words}
use Rattle.a429_ldu.proofs.FormFacts.{form_of-is, form_is_not_free}
use Rattle.a429_ldu.proofs.CutPieces.{length-semis}

-- ---- semi-octets of words, one word more

joined_nil : (o : Option (List ℕ)) → joined_to o (Some []) ≡ o
joined_nil (Some xs) = ap Some (append-nil xs)
joined_nil None = refl

joined_assoc : (a b c : Option (List ℕ)) → joined_to (joined_to a b) c ≡ joined_to a (joined_to b c)
joined_assoc (Some xs) (Some ys) (Some zs) = ap Some (append_assoc xs ys zs)
joined_assoc (Some xs) (Some ys) None = refl
joined_assoc (Some xs) None c = refl
joined_assoc None b c = refl

joined_from_nil : (o : Option (List ℕ)) → joined_to (Some []) o ≡ o
joined_from_nil (Some xs) = refl
joined_from_nil None = refl

words-append : (c : Codes) (vs ws : List ℕ) → semis_of_words c (vs ++ ws) ≡ joined_to (semis_of_words c vs) (semis_of_words c ws)
words-append c [] ws = sym (joined_from_nil (semis_of_words c ws))
words-append c (v ∷ vs) ws =
    ap (joined_to (semis_in (form_of c bus.A v))) (words-append c vs ws)
    ∙ sym (joined_assoc (semis_in (form_of c bus.A v)) (semis_of_words c vs) (semis_of_words c ws))

words-more : (c : Codes) (ws : List ℕ) (i w : ℕ) → i < length ws → w ≡ get_or ws i w
    → semis_of_words c (take (i + 1) ws) ≡ joined_to (semis_of_words c (take i ws)) (semis_in (form_of c bus.A w))
words-more c ws i w h e =
    ap (semis_of_words c) (take_more ws i w h ∙ ap (λ v. take i ws ++ v ∷ []) (sym e)) ∙ words-append c (take i ws) (w ∷ [])
    ∙ ap (joined_to (semis_of_words c (take i ws))) (joined_nil (semis_in (form_of c bus.A w)))

-- a data word more, behind the semi-octets that there were
pub word-more : (c : Codes) (ws : List ℕ) (i w : ℕ) (start read semis next : List ℕ) → i < length ws → w ≡ get_or ws i w
    → joined_to (Some start) (semis_of_words c (take i ws)) ≡ Some read → Some semis ≡ semis_in (form_of c bus.A w) → next ≡ read ++ semis →
    joined_to (Some start) (semis_of_words c (take (i + 1) ws)) ≡ Some next
word-more c ws i w start read semis next h e er es en =
    ap (joined_to (Some start)) (words-more c ws i w h e)
    ∙ sym (joined_assoc (Some start) (semis_of_words c (take i ws)) (semis_in (form_of c bus.A w)))
    ∙ ap (λ o. joined_to o (semis_in (form_of c bus.A w))) er ∙ ap (joined_to (Some read)) (sym es) ∙ ap Some (sym en)

-- no semi-octets where a word is no data word
pub words-none : (c : Codes) (ws : List ℕ) (i w : ℕ)
    → i < length ws → w ≡ get_or ws i w → semis_in (form_of c bus.A w) ≡ None → semis_of_words c ws ≡ None
words-none c [] i w h e n = absurd (omega arith)
words-none c (v ∷ ws) zero w h e n =
    ap (λ u. joined_to (semis_in (form_of c bus.A u)) (semis_of_words c ws)) (sym e) ∙ ap (λ o. joined_to o (semis_of_words c ws)) n
words-none c (v ∷ ws) (suc i) w h e n =
    ap (joined_to (semis_in (form_of c bus.A v))) (words-none c ws i w (omega arith) e n) ∙ nothing (semis_in (form_of c bus.A v))
  where
    nothing : (o : Option (List ℕ)) → joined_to o None ≡ None
    nothing (Some xs) = refl
    nothing None = refl

-- ---- bytes of semi-octets

byte_again : (b : ℕ) → b % 16 + 16 * (b / 16) ≡ b
byte_again b = omega arith

paired-bytes : (bs : List ℕ) → paired (semis_of_bytes bs) ≡ Some bs
paired-bytes [] = refl
paired-bytes (b ∷ bs) = ap (option_map (λ ns. (b % 16 + 16 * (b / 16)) ∷ ns)) (paired-bytes bs) ∙ ap (λ n. Some (n ∷ bs)) (byte_again b)

paired-odd : (bs : List ℕ) (d : ℕ) → paired (semis_of_bytes bs ++ d ∷ []) ≡ None
paired-odd [] d = refl
paired-odd (b ∷ bs) d = ap (option_map (λ ns. (b % 16 + 16 * (b / 16)) ∷ ns)) (paired-odd bs d)

semis-append : (bs cs : List ℕ) → semis_of_bytes (bs ++ cs) ≡ semis_of_bytes bs ++ semis_of_bytes cs
semis-append [] cs = refl
semis-append (b ∷ bs) cs = ap (λ xs. b % 16 ∷ b / 16 ∷ xs) (semis-append bs cs)

byte_low : (n l h : ℕ) → l < 16 → n ≡ h * 16 + l → n % 16 ≡ l
byte_low n l h small e = omega arith

byte_high : (n l h : ℕ) → l < 16 → n ≡ h * 16 + l → n / 16 ≡ h
byte_high n l h small e = omega arith

shifted : (l d : ℕ) → l < 16 → d < 16 → bit_or (d * 16 % 256) l ≡ d * 16 + l
shifted l d hl hd = let e : d * 16 % 256 ≡ d * 2 ^ 4 = omega arith in rw e (or_shifted d 4 l hl)

pub digit-high : (bs : List ℕ) (low : Option ℕ) (l d : ℕ) → low ≡ Some l → l < 16 → d < 16
    → semis_of_bytes (bs ++ bit_or (d * 16 % 256) l ∷ []) ++ [] ≡ (semis_of_bytes bs ++ option_to_list low) ++ d ∷ []
digit-high bs low l d e hl hd =
    let n = bit_or (d * 16 % 256) l in
    let sum = shifted l d hl hd in
    append-nil (semis_of_bytes (bs ++ n ∷ [])) ∙ semis-append bs (n ∷ [])
    ∙ ap (λ m. semis_of_bytes bs ++ m ∷ n / 16 ∷ []) (byte_low n l d hl sum)
    ∙ ap (λ m. semis_of_bytes bs ++ l ∷ m ∷ []) (byte_high n l d hl sum)
    ∙ sym (append_assoc (semis_of_bytes bs) (l ∷ []) (d ∷ [])) ∙ sym (ap (λ o. (semis_of_bytes bs ++ option_to_list o) ++ d ∷ []) e)

-- bytes put one behind another
pub two_pushed : (bs mid out : List ℕ) (x y : ℕ) → mid ≡ bs ++ x ∷ [] → out ≡ mid ++ y ∷ [] → out ≡ bs ++ x ∷ y ∷ []
two_pushed bs mid out x y em eo = eo ∙ ap (λ ms. ms ++ y ∷ []) em ∙ append_assoc bs (x ∷ []) (y ∷ [])

pub three_pushed : (bs first mid out : List ℕ) (x y z : ℕ)
    → first ≡ bs ++ x ∷ [] → mid ≡ first ++ y ∷ [] → out ≡ mid ++ z ∷ [] → out ≡ bs ++ x ∷ y ∷ z ∷ []
three_pushed bs first mid out x y z ef em eo =
    eo ∙ ap (λ ms. ms ++ z ∷ []) (two_pushed bs first mid x y ef em) ∙ append_assoc bs (x ∷ y ∷ []) (z ∷ [])

-- how many semi-octets there are then
pub kept_count : (bs cs xs : List ℕ) (low rest : Option ℕ)
    → semis_of_bytes cs ++ option_to_list rest ≡ (semis_of_bytes bs ++ option_to_list low) ++ xs
    → 2 * length cs + length (option_to_list rest) ≡ 2 * length bs + length (option_to_list low) + length xs
kept_count bs cs xs low rest e =
    let there = length-append (semis_of_bytes cs) (option_to_list rest) in
    let here = length-append (semis_of_bytes bs) (option_to_list low) in
    let all = length-append (semis_of_bytes bs ++ option_to_list low) xs in
    let old = length-semis bs in
    let new = length-semis cs in
    let same = ap length e in
    omega arith

-- two bytes of five semi-octets, and the one that waits
pub five_first : (bs : List ℕ) (low : Option ℕ) (n x y : ℕ) → low ≡ None → n < 2 ^ 20 → x ≡ n % 256 → y ≡ n / 256 % 256 →
    semis_of_bytes (bs ++ x ∷ y ∷ []) ++ n / 65536 ∷ [] ≡ (semis_of_bytes bs ++ option_to_list low) ++ five_of n
five_first bs low n x y e h ex ey =
    let first : x % 16 ≡ n % 16 = omega arith in
    let second : x / 16 ≡ n / 16 % 16 = omega arith in
    let third : y % 16 ≡ n / 256 % 16 = omega arith in
    let fourth : y / 16 ≡ n / 4096 % 16 = omega arith in
    let last : n / 65536 ≡ n / 65536 % 16 = omega arith in
    ap (λ ss. ss ++ n / 65536 ∷ []) (semis-append bs (x ∷ y ∷ []))
    ∙ append_assoc (semis_of_bytes bs) (semis_of_bytes (x ∷ y ∷ [])) (n / 65536 ∷ [])
    ∙ ap (λ ss. semis_of_bytes bs ++ ss) (rw (first, second, third, fourth, ← last) refl)
    ∙ ap (λ ss. ss ++ five_of n) (sym (append-nil (semis_of_bytes bs)))
    ∙ sym (ap (λ o. (semis_of_bytes bs ++ option_to_list o) ++ five_of n) e)

pub above_waiting : (n r w : ℕ) → n < 2 ^ 20 → r ≡ w → w < 16 → bit_or (n * 16 % 4294967296) r ≡ n * 16 + w
above_waiting n r w h e hw = let room : n * 16 % 4294967296 ≡ n * 2 ^ 4 = omega arith in rw (e, room) (or_shifted n 4 w hw)

-- three bytes of a semi-octet that has waited and five more
pub five_joined : (bs : List ℕ) (low : Option ℕ) (w n x y z : ℕ)
    → low ≡ Some w → w < 16 → n < 2 ^ 20 → x ≡ (n * 16 + w) % 256 → y ≡ (n * 16 + w) / 256 % 256 → z ≡ (n * 16 + w) / 65536 →
    semis_of_bytes (bs ++ x ∷ y ∷ z ∷ []) ++ [] ≡ (semis_of_bytes bs ++ option_to_list low) ++ five_of n
five_joined bs low w n x y z e hw h ex ey ez =
    let waited : x % 16 ≡ w = omega arith in
    let first : x / 16 ≡ n % 16 = omega arith in
    let second : y % 16 ≡ n / 16 % 16 = omega arith in
    let third : y / 16 ≡ n / 256 % 16 = omega arith in
    let fourth : z % 16 ≡ n / 4096 % 16 = omega arith in
    let last : z / 16 ≡ n / 65536 % 16 = omega arith in
    append-nil _ ∙ semis-append bs _ ∙ ap (λ ss. semis_of_bytes bs ++ ss) (rw (waited, first, second, third, fourth, last) refl)
    ∙ sym (append_assoc (semis_of_bytes bs) (w ∷ []) (five_of n)) ∙ sym (ap (λ o. (semis_of_bytes bs ++ option_to_list o) ++ five_of n) e)

-- ---- what the code has read, at its end

if_some-from : (bs : List ℕ) → 1 ≤ length bs → if_some (Some bs) ≡ Some bs
if_some-from [] h = absurd (omega arith)
if_some-from (b ∷ bs) h = refl

pub left_over : (bs : List ℕ) (low : Option ℕ) → true ≡ is_some low → None ≡ if_some (paired (semis_of_bytes bs ++ option_to_list low))
left_over bs None e = absurd (cc)
left_over bs (Some d) e = sym (ap if_some (paired-odd bs d))

pub none_left : (bs : List ℕ) (low : Option ℕ)
    → false ≡ is_some low → if_some (paired (semis_of_bytes bs ++ option_to_list low)) ≡ if_some (Some bs)
none_left bs None e = ap (λ ss. if_some (paired ss)) (append-nil (semis_of_bytes bs)) ∙ ap if_some (paired-bytes bs)
none_left bs (Some d) e = absurd (cc)

pub kept_whole : (bs : List ℕ) (low : Option ℕ)
    → false ≡ is_some low → 1 ≤ length bs → if_some (paired (semis_of_bytes bs ++ option_to_list low)) ≡ Some bs
kept_whole bs low e h = none_left bs low e ∙ if_some-from bs h

pub none_whole : (bs : List ℕ) (low : Option ℕ)
    → false ≡ is_some low → bs ≡ [] → if_some (paired (semis_of_bytes bs ++ option_to_list low)) ≡ None
none_whole bs low e none = none_left bs low e ∙ ap (λ xs. if_some (Some xs)) none

pub carried-none : (c : Codes) (ws : List ℕ) → semis_of_words c ws ≡ None → bytes_carried c ws ≡ None
carried-none c ws e = ap (λ o. if_some (option_and_then paired o)) e

carried-some : (c : Codes) (ws ss : List ℕ) → semis_of_words c ws ≡ Some ss → bytes_carried c ws ≡ if_some (paired ss)
carried-some c ws ss e = ap (λ o. if_some (option_and_then paired o)) e

pub carried-read : (c : Codes) (ws none ss : List ℕ)
    → none ≡ [] → joined_to (Some (semis_of_bytes none ++ [])) (semis_of_words c ws) ≡ Some ss → if_some (paired ss) ≡ bytes_carried c ws
carried-read c ws [] ss e h = sym (carried-some c ws ss (sym (joined_from_nil (semis_of_words c ws)) ∙ h))
carried-read c ws (b ∷ bs) ss e h = absurd (cc)

-- ---- how many semi-octets there are

pub semis_counted : (c : Codes) (ws none made : List ℕ) (rest : Option ℕ)
    → none ≡ [] → joined_to (Some (semis_of_bytes none ++ [])) (semis_of_words c ws) ≡ Some (semis_of_bytes made ++ option_to_list rest)
    → semis_count (length made) rest ≡ semis_in_words c ws
semis_counted c ws [] made rest e h =
    let is : semis_of_words c ws ≡ Some (semis_of_bytes made ++ option_to_list rest) = sym (joined_from_nil (semis_of_words c ws)) ∙ h in
    let sum = length-append (semis_of_bytes made) (option_to_list rest) in
    let bytes = length-semis made in
    let count : semis_count (length made) rest ≡ length (semis_of_bytes made ++ option_to_list rest) = omega (arith, sum, bytes) in
    count ∙ sym (ap (λ o. length (unwrap_or o [])) is)
semis_counted c ws (b ∷ bs) made rest e h = absurd (cc)

pub none_counted : (c : Codes) (ws : List ℕ) → semis_of_words c ws ≡ None → 0 ≡ semis_in_words c ws
none_counted c ws e = sym (ap (λ o. length (unwrap_or o [])) e)

-- ---- words read in two parts

-- an even number of semi-octets leaves none that waits
pub none_waits : (rest : Option ℕ) (a b : ℕ) → 2 * a + length (option_to_list rest) ≡ 2 * b → rest ≡ None
none_waits None a b e = refl
none_waits (Some d) a b e = absurd (omega arith)

pub parts_read : (c : Codes) (ws rest : List ℕ) (n : ℕ) (start read total : List ℕ)
    → rest ≡ drop n ws → joined_to (Some start) (semis_of_words c (take n ws)) ≡ Some read
    → joined_to (Some read) (semis_of_words c rest) ≡ Some total → joined_to (Some start) (semis_of_words c ws) ≡ Some total
parts_read c ws rest n start read total is first second =
    ap (λ vs. joined_to (Some start) (semis_of_words c vs)) (sym (take-append-drop n ws))
    ∙ ap (joined_to (Some start)) (words-append c (take n ws) (drop n ws))
    ∙ sym (joined_assoc (Some start) (semis_of_words c (take n ws)) (semis_of_words c (drop n ws)))
    ∙ ap (λ o. joined_to o (semis_of_words c (drop n ws))) first ∙ ap (λ vs. joined_to (Some read) (semis_of_words c vs)) (sym is) ∙ second

pub none_in_part : (c : Codes) (ws rest : List ℕ) (n : ℕ) → rest ≡ drop n ws → semis_of_words c rest ≡ None → semis_of_words c ws ≡ None
none_in_part c ws rest n is none =
    ap (semis_of_words c) (sym (take-append-drop n ws)) ∙ words-append c (take n ws) (drop n ws)
    ∙ ap (joined_to (semis_of_words c (take n ws))) (ap (semis_of_words c) (sym is) ∙ none) ∙ nothing (semis_of_words c (take n ws))
  where
    nothing : (o : Option (List ℕ)) → joined_to o None ≡ None
    nothing (Some xs) = refl
    nothing None = refl

-- ---- words read piece by piece

pub more_read : (c : Codes) (all piece rest bs none made out : List ℕ) (low left : Option ℕ) (total : Option (List ℕ))
    → all ≡ piece ++ rest → none ≡ []
    → joined_to (Some (semis_of_bytes none ++ option_to_list low)) (semis_of_words c piece)
    ≡ Some (semis_of_bytes made ++ option_to_list left)
    → out ≡ bs ++ made →
    joined_to (Some (semis_of_bytes bs ++ option_to_list low)) (semis_of_words c all) ≡ total
    → joined_to (Some (semis_of_bytes out ++ option_to_list left)) (semis_of_words c rest) ≡ total
more_read c all piece rest bs [] made out low left total ea en h eo before =
    let start = semis_of_bytes bs in
    let waited = option_to_list low in
    let later = semis_of_words c rest in
    ap (λ xs. joined_to (Some (semis_of_bytes xs ++ option_to_list left)) later) eo
    ∙ ap (λ ss. joined_to (Some (ss ++ option_to_list left)) later) (semis-append bs made)
    ∙ ap (λ ss. joined_to (Some ss) later) (append_assoc start (semis_of_bytes made) (option_to_list left))
    ∙ ap (λ o. joined_to (joined_to (Some start) o) later) (sym h)
    ∙ ap (λ o. joined_to o later) (sym (joined_assoc (Some start) (Some waited) (semis_of_words c piece)))
    ∙ joined_assoc (Some (start ++ waited)) (semis_of_words c piece) later
    ∙ ap (joined_to (Some (start ++ waited))) (sym (words-append c piece rest))
    ∙ ap (λ ws. joined_to (Some (start ++ waited)) (semis_of_words c ws)) (sym ea) ∙ before
more_read c all piece rest bs (n ∷ ns) made out low left total ea en h eo before = absurd (cc)

pub none_read : (c : Codes) (ws all piece rest start : List ℕ) → all ≡ piece ++ rest → semis_of_words c piece ≡ None
    → joined_to (Some start) (semis_of_words c all) ≡ semis_of_words c ws → bytes_carried c ws ≡ None
none_read c ws all piece rest start ea none before =
    carried-none c ws (sym before ∙ ap (λ vs. joined_to (Some start) (semis_of_words c vs)) ea
    ∙ ap (joined_to (Some start)) (words-append c piece rest) ∙ ap (λ o. joined_to (Some start) (joined_to o (semis_of_words c rest))) none)

pub all_read : (c : Codes) (ws rest read : List ℕ)
    → rest ≡ [] → joined_to (Some read) (semis_of_words c rest) ≡ semis_of_words c ws → if_some (paired read) ≡ bytes_carried c ws
all_read c ws [] read e before = ap (λ o. if_some (option_and_then paired o)) (ap Some (sym (append-nil read)) ∙ before)
all_read c ws (w ∷ rest) read e before = absurd (cc)

-- ---- the bytes carried, as they are computed and as they are defined

record Joins (a b : Option (List ℕ)) (zs : List ℕ) : Type 0 where
  xs : List ℕ
  ys : List ℕ
  first : a ≡ Some xs
  second : b ≡ Some ys
  whole : zs ≡ xs ++ ys

joins : (a b : Option (List ℕ)) (zs : List ℕ) → joined_to a b ≡ Some zs → Joins a b zs
joins (Some xs) (Some ys) zs e = record { xs = xs; ys = ys; first = refl; second = refl; whole = sym (same_Some _ _ e) }
joins (Some xs) None zs e = absurd (cc)
joins None b zs e = absurd (cc)

semis_in-some : (o : Option Form) (xs : List ℕ) → semis_in o ≡ Some xs → o ≡ Some (Part xs)
semis_in-some (Some (Part ys)) xs e = ap (λ zs. Some (Part zs)) (same_Some _ _ e)
semis_in-some (Some (Rts n)) xs e = absurd (cc)
semis_in-some (Some (Cts n)) xs e = absurd (cc)
semis_in-some (Some (Ack file ldu)) xs e = absurd (cc)
semis_in-some (Some (Nak bits)) xs e = absurd (cc)
semis_in-some (Some (Sot gfi file ldu)) xs e = absurd (cc)
semis_in-some (Some (Eot flags check)) xs e = absurd (cc)
semis_in-some None xs e = absurd (cc)

abbrev AreDigits : List ℕ → Type 0
AreDigits ss = AllByRecursion (λ s. s < 16) ss

digits-append : (xs ys : List ℕ) → AreDigits xs → AreDigits ys → AreDigits (xs ++ ys)
digits-append [] ys h k = k
digits-append (x ∷ xs) ys h k = (h.0, digits-append xs ys h.1 k)

record AreRead (c : Codes) (ws ss : List ℕ) : Type 0 where
  semis : List (List ℕ)
  words : AreDataWords c ws semis
  joined : concat semis ≡ ss
  digits : AreDigits ss

read : (p : Contents) → IsProfile p → (ws ss : List ℕ) → semis_of_words p.codes ws ≡ Some ss → AreRead p.codes ws ss
read p is [] ss e = let e0 = same_Some _ _ e in record { semis = []; words = tt; joined = e0; digits = subst AreDigits e0 tt }
read p is (w ∷ ws) ss e =
    let j = joins (semis_in (form_of p.codes bus.A w)) (semis_of_words p.codes ws) ss e in
    let form = ((form_of-is p is bus.A w (Part j.xs)).0 (semis_in-some (form_of p.codes bus.A w) j.xs j.first)).1 in
    let rest = read p is ws j.ys j.second in
    record {
      semis = j.xs ∷ rest.semis;
      words = (form, rest.words);
      joined = ap (λ ys. j.xs ++ ys) rest.joined ∙ sym j.whole;
      digits = subst AreDigits (sym j.whole) (digits-append j.xs j.ys form.range.2 rest.digits);
    }

mapped : (n : ℕ) (o : Option (List ℕ)) (bs : List ℕ)
    → option_map (λ bytes. n ∷ bytes) o ≡ Some bs → (rest : List ℕ) × (o ≡ Some rest) × (bs ≡ n ∷ rest)
mapped n (Some xs) bs e = (xs, refl, sym (same_Some _ _ e))
mapped n None bs e = absurd (cc)

pair : (l h : ℕ) → l < 16 → ((l + 16 * h) % 16 ≡ l) × ((l + 16 * h) / 16 ≡ h)
pair l h small = (omega arith, omega arith)

paired_back : (ss bs : List ℕ) → AreDigits ss → paired ss ≡ Some bs → ss ≡ semis_of_bytes bs
paired_back [] bs small e = ap semis_of_bytes (same_Some _ _ e)
paired_back (l ∷ []) bs small e = absurd (cc)
paired_back (l ∷ h ∷ ss) bs small e =
    let m = mapped (l + 16 * h) (paired ss) bs e in
    let again = pair l h small.0 in
    ap (λ xs. l ∷ h ∷ xs) (paired_back ss m.0 small.1.1 m.1) ∙ ap (λ n. n ∷ h ∷ semis_of_bytes m.0) (sym again.0)
    ∙ ap (λ n. (l + 16 * h) % 16 ∷ n ∷ semis_of_bytes m.0) (sym again.1) ∙ ap semis_of_bytes (sym m.2)

if_some-some : (o : Option (List ℕ)) (bs : List ℕ) → if_some o ≡ Some bs → (o ≡ Some bs) × (1 ≤ length bs)
if_some-some (Some (b ∷ bs)) cs e = (e, subst (λ (xs : List ℕ). 1 ≤ length xs) (same_Some _ _ e) (omega arith))
if_some-some (Some []) cs e = absurd (cc)
if_some-some None cs e = absurd (cc)

chained : (o : Option (List ℕ)) (bs : List ℕ) → option_and_then paired o ≡ Some bs → (ss : List ℕ) × (o ≡ Some ss) × (paired ss ≡ Some bs)
chained (Some ss) bs e = (ss, refl, e)
chained None bs e = absurd (cc)

-- what is computed is carried
pub carries_of : (p : Contents) → IsProfile p → (ws bs : List ℕ) → bytes_carried p.codes ws ≡ Some bs → CarryBytes p.codes ws bs
carries_of p is ws bs e =
    let some = if_some-some (option_and_then paired (semis_of_words p.codes ws)) bs e in
    let ch = chained (semis_of_words p.codes ws) bs some.0 in
    let r = read p is ws ch.0 ch.1 in
    record {
      semis = r.semis;
      words = r.words;
      carries = record { some = some.1; semi_octets = r.joined ∙ paired_back ch.0 bs r.digits ch.2 };
    }

data_read : (p : Contents)
    → IsProfile p → (ws : List ℕ) (semis : List (List ℕ)) → AreDataWords p.codes ws semis → semis_of_words p.codes ws ≡ Some (concat semis)
data_read p is [] [] h = refl
data_read p is [] (s ∷ ss) h = absurd h
data_read p is (w ∷ ws) [] h = absurd h
data_read p is (w ∷ ws) (s ∷ ss) h =
    let form = (form_of-is p is bus.A w (Part s)).1 (form_is_not_free p is bus.A w (Part s) h.0, h.0) in
    ap (λ o. joined_to (semis_in o) (semis_of_words p.codes ws)) form ∙ ap (joined_to (Some s)) (data_read p is ws ss h.1)

-- what is carried is computed
pub carried_of : (p : Contents) → IsProfile p → (ws bs : List ℕ) → CarryBytes p.codes ws bs → bytes_carried p.codes ws ≡ Some bs
carried_of p is ws bs h =
    carried-some p.codes ws (semis_of_bytes bs) (data_read p is ws h.semis h.words ∙ ap Some h.carries.semi_octets)
    ∙ ap if_some (paired-bytes bs) ∙ if_some-from bs h.carries.some

-- words that carry none
pub answer_none : (p : Contents)
    → IsProfile p → (ws : List ℕ) → bytes_carried p.codes ws ≡ None → (bs : List ℕ) → ¬ CarryBytes p.codes ws bs
answer_none p is ws e bs h = absurd (let some = carried_of p is ws bs h in cc)

-- the same where words were read piece by piece, if there were any
no_bytes : (c : Codes) (bs : List ℕ) (ss : List (List ℕ)) → AreDataWords c [] ss → Carries ss bs → ⊥
no_bytes c [] [] h k = let some = k.some in absurd (omega arith)
no_bytes c (b ∷ bs) [] h k = let same = k.semi_octets in absurd (cc)
no_bytes c bs (s ∷ ss) h k = absurd h

pub pieces_some : (p : Contents) (ws rest bs : List ℕ)
    → rest ≡ [] → (rest ≡ ws) ⊎ IsProfile p → Some bs ≡ bytes_carried p.codes ws → CarryBytes p.codes ws bs
pieces_some p ws rest bs none (inl e) h = let nothing : Some bs ≡ None = h ∙ ap (bytes_carried p.codes) (sym e ∙ none) in absurd (cc)
pieces_some p ws rest bs none (inr is) h = carries_of p is ws bs (sym h)

pub pieces_none : (p : Contents) (ws rest : List ℕ)
    → rest ≡ [] → (rest ≡ ws) ⊎ IsProfile p → None ≡ bytes_carried p.codes ws → (bs : List ℕ) → ¬ CarryBytes p.codes ws bs
pieces_none p ws rest none (inl e) h bs k =
    let empty = subst (λ vs. CarryBytes p.codes vs bs) (sym e ∙ none) k in no_bytes p.codes bs empty.semis empty.words empty.carries
pieces_none p ws rest none (inr is) h bs k = answer_none p is ws (sym h) bs k

-- words carry one list of bytes
pub one_list : (p : Contents) → IsProfile p → (ws xs ys : List ℕ) → CarryBytes p.codes ws xs → CarryBytes p.codes ws ys → xs ≡ ys
one_list p is ws xs ys hx hy = same_Some _ _ (sym (carried_of p is ws xs hx) ∙ carried_of p is ws ys hy)

-- ---- how many bytes

data-count : (c : Codes) (ws : List ℕ) (ss : List (List ℕ)) → AreDataWords c ws ss → length (concat ss) ≤ 5 * length ws
data-count c [] [] h = omega arith
data-count c [] (s ∷ ss) h = absurd h
data-count c (w ∷ ws) [] h = absurd h
data-count c (w ∷ ws) (s ∷ ss) h =
    let rest = data-count c ws ss h.1 in
    let here : length s ≤ 5 = h.0.range.1 in
    omega (arith, length-append s (concat ss))

-- a word carries at most five semi-octets
pub carried-most : (c : Codes) (ws bytes : List ℕ) → CarryBytes c ws bytes → 2 * length bytes ≤ 5 * length ws
carried-most c ws bytes h =
    let most = data-count c ws h.semis h.words in
    let twice = length-semis bytes in
    let same = ap length h.carries.semi_octets in
    omega arith
