-- What is read of a certificate that is upgraded, and how far it was written.
use Rattle.std.proofs.Common.{◌≡◌, ◌∙◌, ◌+◌, ℕ, List, [], ◌++◌, length, take, drop, Bool, true, false, Option, Some, None, if◌then◌else◌, IfSome, refl, sym, ap, subst, arith, length-append}
use Rattle.std.proofs.Math.Seq.{take-append_seam, drop-append_seam, take-append-add}
use Rattle.std.proofs.KnownBytes.{Appends-trans}
use Rattle.std.specs.Io.KnownBytes.{Appends, Consumes}
use Rattle.a429_word.specs.Tally.{AppendsPrefix}
use Rattle.a429_word.proofs.PageFacts.{AppendsPrefix-longer}
use Rattle.a429_commands.specs.Upgrade.{version_two_line, is_version_line, upgraded, OfKnown, TakesVersion}

-- ---- a line of 16 bytes, and what is behind it

line_alone : (line rest : List ℕ) → length line ≡ 16 → take 16 (line ++ rest) ≡ line
line_alone line rest len = ap (λ n. take n (line ++ rest)) (sym len) ∙ take-append_seam line rest

pub upgraded_after : (line rest : List ℕ)
    → is_version_line line ≡ true → length line ≡ 16 → upgraded (line ++ rest) ≡ Some (version_two_line ++ rest)
upgraded_after line rest first len =
    let behind : drop 16 (line ++ rest) ≡ rest = ap (λ n. drop n (line ++ rest)) (sym len) ∙ drop-append_seam line rest in
    ap (λ t. if is_version_line t then Some (version_two_line ++ drop 16 (line ++ rest)) else None) (line_alone line rest len)
    ∙ ap (λ b. if b then Some (version_two_line ++ drop 16 (line ++ rest)) else None) first
    ∙ ap (λ r. Some (version_two_line ++ r)) behind

no_upgrade : (line rest : List ℕ) → is_version_line line ≡ false → length line ≡ 16 → upgraded (line ++ rest) ≡ None
no_upgrade line rest first len =
    ap (λ t. if is_version_line t then Some (version_two_line ++ drop 16 (line ++ rest)) else None) (line_alone line rest len)
    ∙ ap (λ b. if b then Some (version_two_line ++ drop 16 (line ++ rest)) else None) first

-- the line that was read decides
pub version_taken : (old new : Option (List ℕ)) (line : List ℕ) (found : Bool)
    → Consumes old new line → length line ≡ 16 → found ≡ is_version_line line → TakesVersion old new found
version_taken old new line true read len is = (line, sym is, len, read)
version_taken None new line false read len is = tt
version_taken (Some xs) None line false read len is = absurd read
version_taken (Some xs) (Some ys) line false read len is = ap upgraded read ∙ no_upgrade line ys (sym is) len

-- ---- the bytes that a reader had to give

-- what was read is the front of them
unread_from : (old new : Option (List ℕ)) (front : List ℕ)
    → Consumes old new front → (more : List ℕ) × IfSome old (λ xs. xs ≡ front ++ more)
unread_from None new front read = ([], tt)
unread_from (Some xs) None front read = absurd read
unread_from (Some xs) (Some ys) front read = (ys, read)

-- what was read, and then what is still to come
unread_after : (old new : Option (List ℕ)) (front rest : List ℕ)
    → Consumes old new front → IfSome new (λ xs. xs ≡ rest) → IfSome old (λ xs. xs ≡ front ++ rest)
unread_after None new front rest read are = tt
unread_after (Some xs) None front rest read are = absurd read
unread_after (Some xs) (Some ys) front rest read are = read ∙ ap (λ l. front ++ l) are

-- what holds of any bytes holds of these
pub of_any : (known : Option (List ℕ)) (P : List ℕ → Type 0) → ((bytes : List ℕ) → P bytes) → OfKnown known P
of_any None P all = ([], tt, all [])
of_any (Some xs) P all = (xs, refl, all xs)

-- the line of a version was read, and these bytes come after it
pub upgraded_of : (old new : Option (List ℕ)) (found : Bool) (rest : List ℕ) → found ≡ true → TakesVersion old new found
    → IfSome new (λ xs. xs ≡ rest) → OfKnown old (λ bytes. Some (version_two_line ++ rest) ≡ upgraded bytes)
upgraded_of old new true rest _ (line, first, len, read) are =
    (line ++ rest, unread_after old new line rest read are, sym (upgraded_after line rest first len))
upgraded_of old new false rest is taken are = cc

-- no such line was read
pub of_none : (old new : Option (List ℕ)) (found : Bool) (Q : List ℕ → Type 0) → found ≡ false → TakesVersion old new found
    → ((bytes : List ℕ) → upgraded bytes ≡ None → Q bytes) → OfKnown old Q
of_none old new true Q is taken so = cc
of_none None new false Q _ none so = ([], tt, so [] refl)
of_none (Some xs) new false Q _ none so = (xs, refl, so xs none)

-- ---- a front that was written

pub front_after : (a b c : Option (List ℕ)) (xs ys : List ℕ) → Appends a b xs → AppendsPrefix b c ys → AppendsPrefix a c (xs ++ ys)
front_after a b c xs ys first (n, few, grown) = (
  length xs + n,
  omega (arith, few, length-append xs ys),
  subst (Appends a c) (sym (take-append-add xs ys n)) (Appends-trans a b c xs (take n ys) first grown),
)

-- what was read was written up to some place, and more may be to come
pub front_copied : (old new a b : Option (List ℕ)) (moved : List ℕ)
    → Consumes old new moved → AppendsPrefix a b moved → OfKnown old (AppendsPrefix a b)
front_copied old new a b moved read front =
    let all = unread_from old new moved read in (moved ++ all.0, all.1, AppendsPrefix-longer a b moved all.0 front)
