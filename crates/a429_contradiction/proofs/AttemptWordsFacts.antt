-- How far the words of an attempt go into a block.
use Rattle.std.proofs.Common.{◌≡◌, ◌↔◌, Bool, true, false, ℕ, ◌+◌, ◌<◌, ◌≤◌, List, [], ◌∷◌, ◌++◌, length, drop, get_or, Option, Some, None, is_some, not, IfSome, IsTrue, if◌then◌else◌, refl, sym, ap, ◌∙◌, subst, inr, arith, append-nil, length-append}
use Rattle.std.proofs.lemmas.List.{drop_more, drop_all}
use Rattle.a429_link.specs.Run.{IsSubsequenceOf}
use Rattle.a429_link.specs.Contradiction.{AreOther}
use Rattle.a429_link.proofs.Subsequence.{sub_none, sub_length}
use Rattle.a429_contradiction.specs.SoFar.{IsPassedWith}
use Rattle.a429_merge.proofs.SubsequenceFacts.{sub_all, sub_tails}

-- a word is first found as far as after so many
abbrev pub IsSoFar : ℕ → List ℕ → ℕ → ℕ → Type 0
IsSoFar w ys n k = (more : List ℕ) → IsSubsequenceOf (w ∷ more) (drop n ys) ↔ IsSubsequenceOf (w ∷ more) (drop k ys)

-- it is the next one
pub found : (w : ℕ) (ys : List ℕ) (n k : ℕ) → k < length ys → get_or ys k 0 ≡ w → IsSoFar w ys n k → (more : List ℕ)
    → IsSubsequenceOf (w ∷ more) (drop n ys) ↔ IsSubsequenceOf more (drop (k + 1) ys)
found w ys n k l e so more = ((λ h. here.0 ((so more).0 h)), (λ h. (so more).1 (here.1 h)))
  where
    here : IsSubsequenceOf (w ∷ more) (drop k ys) ↔ IsSubsequenceOf more (drop (k + 1) ys)
    here =
        let b : drop k ys ≡ w ∷ drop (k + 1) ys = drop_more ys k 0 l ∙ ap (λ (x : ℕ). x ∷ drop (k + 1) ys) e in
        rw b ((λ h. sub_tails w w more (drop (k + 1) ys) h), (λ h. inr (more, refl, h)))

one_more : (words : List ℕ) (w : ℕ) (more : List ℕ) → (words ++ w ∷ []) ++ more ≡ words ++ w ∷ more
one_more [] w more = refl
one_more (v ∷ words) w more = ap (λ (l : List ℕ). v ∷ l) (one_more words w more)

-- ---- with one more word

pub passed_one : (words : List ℕ) (w n : ℕ) (o : Option ℕ) (block : List ℕ) → IsPassedWith words (Some n) block
    → ((k : ℕ) → o ≡ Some k → (more : List ℕ) → IsSubsequenceOf (w ∷ more) (drop n block) ↔ IsSubsequenceOf more (drop k block))
    → (o ≡ None → (more : List ℕ) → ¬ IsSubsequenceOf (w ∷ more) (drop n block)) → IsPassedWith (words ++ w ∷ []) o block
passed_one words w n None block h some none =
    λ more s. none refl more ((h (w ∷ more)).0 (subst (λ l. IsSubsequenceOf l block) (one_more words w more) s))
passed_one words w n (Some k) block h some none = λ more. (
  (λ s. (some k refl more).0 ((h (w ∷ more)).0 (subst (λ l. IsSubsequenceOf l block) (one_more words w more) s))),
  (λ s. subst (λ l. IsSubsequenceOf l block) (sym (one_more words w more)) ((h (w ∷ more)).1 ((some k refl more).1 s))),
)

-- what a search for the next word says of the first that it finds
abbrev pub Finds : ℕ → ℕ → List ℕ → Option ℕ → Type 0
Finds w n block o = IfSome o (λ k. (more : List ℕ) → IsSubsequenceOf (w ∷ more) (drop n block) ↔ IsSubsequenceOf more (drop k block))

pub passed_known : (t : Bool) (words items slice block : List ℕ) (w n : ℕ) (passed o : Option ℕ)
    → (t ≡ true → IsPassedWith words passed items) → passed ≡ Some n → slice ≡ items → Finds w n slice o
    → (o ≡ None → (more : List ℕ) → ¬ IsSubsequenceOf (w ∷ more) (drop n slice)) → (if t then Some items else None) ≡ Some block
    → IsPassedWith (words ++ w ∷ []) o block
passed_known true words items slice block w n passed o h is same some none e =
    let all : items ≡ block = cc e in
    let whole : slice ≡ block = same ∙ all in
    let here : IsPassedWith words (Some n) block =
    subst (λ b. IsPassedWith words (Some n) b) all (subst (λ q. IsPassedWith words q items) is (h refl)) in
    passed_one words w n o block here
    (λ k f. subst (λ b. (more : List ℕ)
    → IsSubsequenceOf (w ∷ more) (drop n b) ↔ IsSubsequenceOf more (drop k b)) whole (subst (λ (q : Option ℕ). Finds w n slice q) f some))
    (λ f. subst (λ b. (more : List ℕ) → ¬ IsSubsequenceOf (w ∷ more) (drop n b)) whole (none f))
passed_known false words items slice block w n passed o h is same some none e = absurd (cc e)

pub passed_all : (words : List ℕ) → IsPassedWith words (Some (length words)) words
passed_all words more = (
  (λ h. rw (drop_all (length words) words (omega arith))
      (none more (omega (arith, sub_length (words ++ more) words h, length-append words more)))),
  (λ h. let e : more ≡ [] = subst (λ zs. IsSubsequenceOf more zs) (drop_all (length words) words (omega arith)) h in
      rw (e, append-nil words) (sub_all words)),
)
  where
    none : (more : List ℕ) → length more ≤ 0 → more ≡ []
    none [] l = refl
    none (x ∷ more) l = absurd (omega arith)

pub passed_whole : (words block : List ℕ) (n : ℕ) → block ≡ words → n ≡ length words → IsPassedWith words (Some n) block
passed_whole words block n e l = rw (e, l) (passed_all words)

-- the words are not some of the block exactly where none are passed
pub outside : (words block : List ℕ) → IsPassedWith words None block → AreOther words (Some block)
outside words block h s = h [] (subst (λ l. IsSubsequenceOf l block) (sym (append-nil words)) s)

pub inside : (words block : List ℕ) (n : ℕ) → IsPassedWith words (Some n) block → ¬ AreOther words (Some block)
inside words block n h other = other (subst (λ l. IsSubsequenceOf l block) (append-nil words) ((h []).1 (sub_none (drop n block))))

pub is_outside : (o : Option ℕ) (t : Bool) (words block : List ℕ)
    → IsPassedWith words o block → is_some o ≡ not t → (IsTrue t) ↔ AreOther words (Some block)
is_outside None true words block h e = ((λ y. outside words block h), (λ other. refl))
is_outside None false words block h e = absurd (cc e)
is_outside (Some n) true words block h e = absurd (cc e)
is_outside (Some n) false words block h e = ((λ y. absurd (cc y)), (λ other. absurd (inside words block n h other)))
