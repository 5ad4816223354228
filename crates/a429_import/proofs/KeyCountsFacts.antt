-- Counts of keys, where an entry comes or goes.
use Rattle.std.proofs.Common.{◌≡◌, ℕ, zero, suc, ◌+◌, ◌-◌, cond, List, [], ◌∷◌, ◌++◌, refl, ap, ◌∙◌, arith, unwrap_or}
use Rattle.std.specs.declared.cmp.Ordering.{Ordering}
use Rattle.std.specs.declared.cmp.Ordering.TheVariants.{Less, Equal, Greater}
use Rattle.std.specs.Ordering.{is_eq}
use Rattle.std.specs.BTreeMap.{BTreeMap, get}
use Rattle.std.proofs.lemmas.List.Sums.{sum_by-cons, sum_by_push}
use Rattle.a429_record.specs.declared.entry.Entry.{Entry}
use Rattle.a429_import.specs.declared.sort_key.SortKey.{SortKey}
use Rattle.a429_import.specs.SortKey.{key_of}
use Rattle.a429_import.specs.KeyCounts.{AreCounted, IsCountedAs, by_key, some_times, times_at, times_in}
use Rattle.a429_import.proofs.SortKeyFacts.{same_keys}

unwrapped : (n : ℕ) → unwrap_or (some_times n) 0 ≡ n
unwrapped zero = refl
unwrapped (suc n) = refl

times_here : (m : BTreeMap SortKey ℕ) (es : List Entry) → AreCounted m es → (k : SortKey) → times_at m k ≡ times_in es k
times_here m es h k = ap (λ o. unwrap_or o 0) (h k) ∙ unwrapped (times_in es k)

-- how many an entry adds for a key, by how its own compares with that
abbrev adds : Ordering → ℕ
adds o = cond (is_eq o) 1 0

pub times_in-cons : (e : Entry) (es : List Entry) (k : SortKey)
    → times_in (e ∷ es) k ≡ cond (is_eq (by_key (key_of e) k)) 1 0 + times_in es k
times_in-cons e es k = sum_by-cons (λ x. adds (by_key (key_of x) k)) e es

times_in_push : (es : List Entry) (e : Entry) (k : SortKey) → times_in (es ++ e ∷ []) k ≡ times_in es k + adds (by_key (key_of e) k)
times_in_push es e k = sum_by_push (λ x. adds (by_key (key_of x) k)) es e

-- one entry more
pub counted_more : (m n : BTreeMap SortKey ℕ) (es : List Entry) (e : Entry) → AreCounted m es
    → IsCountedAs (key_of e) (times_at m (key_of e) + 1) m n → AreCounted n (e ∷ es)
counted_more m n es e h new k = new k ∙ by (by_key (key_of e) k) refl
  where
    there : (o : Ordering) → by_key (key_of e) k ≡ o → times_in (e ∷ es) k ≡ adds o + times_in es k
    there o is = times_in-cons e es k ∙ ap (λ r. adds r + times_in es k) is

    by : (o : Ordering) → by_key (key_of e) k ≡ o
        → cond (is_eq o) (some_times (times_at m (key_of e) + 1)) (get by_key m k) ≡ some_times (times_in (e ∷ es) k)
    by Less is = h k ∙ ap some_times (omega (arith, there Less is))
    by Equal is =
        let here = times_here m es h (key_of e) ∙ ap (times_in es) (same_keys (key_of e) k is) in
        ap some_times (omega (arith, here, there Equal is))
    by Greater is = h k ∙ ap some_times (omega (arith, there Greater is))

-- the last one away
pub counted_less : (m n : BTreeMap SortKey ℕ) (es : List Entry) (e : Entry) → AreCounted m (es ++ e ∷ [])
    → IsCountedAs (key_of e) (times_at m (key_of e) - 1) m n → AreCounted n es
counted_less m n es e h new k = new k ∙ by (by_key (key_of e) k) refl
  where
    there : (o : Ordering) → by_key (key_of e) k ≡ o → times_in (es ++ e ∷ []) k ≡ times_in es k + adds o
    there o is = times_in_push es e k ∙ ap (λ r. times_in es k + adds r) is

    by : (o : Ordering) → by_key (key_of e) k ≡ o
        → cond (is_eq o) (some_times (times_at m (key_of e) - 1)) (get by_key m k) ≡ some_times (times_in es k)
    by Less is = h k ∙ ap some_times (omega (arith, there Less is))
    by Equal is =
        let here = ap (times_at m) (same_keys (key_of e) k is) ∙ times_here m (es ++ e ∷ []) h k in
        ap some_times (omega (arith, here, there Equal is))
    by Greater is = h k ∙ ap some_times (omega (arith, there Greater is))
