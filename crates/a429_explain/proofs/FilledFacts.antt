-- What is recorded of a group that was never recorded whole, one word after the other, and what is added to it.
use Rattle.std.proofs.Common.{◌≡◌, ℕ, suc, ◌+◌, ◌-◌, ◌*◌, ◌%◌, ◌≤◌, ◌<◌, Bool, true, false, cond, not, ◌||◌, ◌==◌, List, [], ◌∷◌, ◌++◌, length, slice_range, Option, Some, None, IfSome, IsSome, is_some, option_and_then, refl, sym, ap, ◌∙◌, subst, arith, append_assoc, length-append}
use Rattle.std.specs.Option.{unwrap_or}
use Rattle.a429_word.specs.declared.bus.Bus.{Bus}
use Rattle.a429_word.specs.declared.bus.Bus.TheVariants as bus
use Rattle.a429_profile.specs.declared.codes.Codes.{Codes}
use Rattle.a429_profile.specs.Profile.{Contents, IsProfile}
use Rattle.a429_ldu.specs.declared.forms.Form.{Form}
use Rattle.a429_ldu.specs.declared.forms.Form.TheVariants.{Part}
use Rattle.a429_ldu.specs.Form.{form_of, word_number, IsInRange}
use Rattle.a429_ldu.specs.Carried.{semis_in, joined_to, semis_of_words, paired, if_some, bytes_carried, bytes_in}
use Rattle.a429_ldu.specs.CheckWord.{check_of}
use Rattle.a429_ldu.proofs.FormFacts.{form_of-is}
use Rattle.a429_link.specs.declared.seen.Seen.{Seen}
use Rattle.a429_link.proofs.TraceReasons.{mapped_some_too, pairs_even}
use Rattle.a429_explain.specs.declared.decoded.DecodedWord.{DecodedWord}
use Rattle.a429_explain.specs.Decoded.{IsHeardAt}
use Rattle.a429_explain.specs.Filled.{is_end, has_end, gfi_of, first_gfi, Last, last_with, last_data, zeros, fillers, are_odd, none_yet, filled_up, unit_filled, filled}
use Rattle.a429_explain.proofs.DecodedFacts.{formed_range}
use Rattle.a429_explain.proofs.WholeFacts.{range_next}

-- ---- the next word

pub end_next : (c : Codes) (items : List Seen) (at to : ℕ) (w : DecodedWord) (t : Bool) → at < to → IsHeardAt c items at w
    → t ≡ is_end w.form → has_end c (slice_range items at to) ≡ (t || has_end c (slice_range items (at + 1) to))
end_next c items at to w t l k e = ap (has_end c) (range_next items at to k.item l k.is)
    ∙ ap (λ (b : Bool). b || has_end c (slice_range items (at + 1) to)) (ap is_end k.form_is ∙ sym e)

pub gfi_next : (c : Codes) (items : List Seen) (at to : ℕ) (w : DecodedWord) (g : Option ℕ) → at < to → IsHeardAt c items at w
    → g ≡ gfi_of w.form → first_gfi c (slice_range items at to) ≡ unwrap_or g (first_gfi c (slice_range items (at + 1) to))
gfi_next c items at to w g l k e = ap (first_gfi c) (range_next items at to k.item l k.is)
    ∙ ap (λ (x : Option ℕ). unwrap_or x (first_gfi c (slice_range items (at + 1) to))) (ap gfi_of k.form_is ∙ sym e)

pub data_next : (c : Codes) (items : List Seen) (at to : ℕ) (w : DecodedWord) (r s : Last) → at < to → IsHeardAt c items at w
    → s ≡ last_with w.form w.word r → last_data c (slice_range items at to) r ≡ last_data c (slice_range items (at + 1) to) s
data_next c items at to w r s l k g =
    ap (λ (xs : List Seen). last_data c xs r) (range_next items at to k.item l k.is)
    ∙ ap (λ (x : Option Form). last_data c (slice_range items (at + 1) to) (last_with x k.item.word r)) k.form_is
    ∙ ap (λ (v : ℕ). last_data c (slice_range items (at + 1) to) (last_with w.form v r)) k.word_is
    ∙ ap (last_data c (slice_range items (at + 1) to)) (sym g)

-- ---- filler words

pub fillers_next : (c : Codes) (odd : Bool) (at to : ℕ) (words new : List ℕ) (w : ℕ)
    → at < to → w ≡ word_number c (Part (zeros odd (to - (at + 1)))) → new ≡ words ++ w ∷ []
    → new ++ fillers c odd (to - (at + 1)) ≡ words ++ fillers c odd (to - at)
fillers_next c odd at to words new w l e pushed =
    let more : to - at ≡ suc (to - (at + 1)) = omega arith in
    ap (λ (xs : List ℕ). xs ++ fillers c odd (to - (at + 1))) pushed
    ∙ append_assoc words (w ∷ []) (fillers c odd (to - (at + 1)))
    ∙ ap (λ (x : ℕ). words ++ x ∷ fillers c odd (to - (at + 1))) e
    ∙ ap (λ (n : ℕ). words ++ fillers c odd n) (sym more)

-- ---- the whole of it

pub filled_is : (p q : Contents) (count gfi : ℕ) (items : List Seen) (t odd : Bool) (own part all given : List ℕ)
    → q ≡ p → t ≡ has_end p.codes items → t ≡ false → own ≡ last_data p.codes items none_yet → part ≡ own → odd ≡ are_odd q.codes part
    → given ≡ all → all ≡ own ++ fillers q.codes odd (count - 2 - length own) → gfi ≡ first_gfi p.codes items
    → unit_filled q count gfi given ≡ filled p count items
filled_is p q count gfi items t odd own part all given same ends never recorded lent parity shown added first =
    let is_odd : odd ≡ are_odd p.codes own = parity ∙ ap (λ (v : Contents). are_odd v.codes part) same ∙ ap (are_odd p.codes) lent in
    let words : given ≡ filled_up p.codes count (last_data p.codes items none_yet) =
    shown ∙ added
    ∙ ap (λ (v : Contents). own ++ fillers v.codes odd (count - 2 - length own)) same
    ∙ ap (λ (b : Bool). own ++ fillers p.codes b (count - 2 - length own)) is_odd
    ∙ ap (filled_up p.codes count) recorded in
    ap (λ (v : Contents). unit_filled v count gfi given) same
    ∙ ap (λ (g : ℕ). unit_filled p count g given) first
    ∙ ap (unit_filled p count (first_gfi p.codes items)) words
    ∙ ap (λ (b : Bool).
    cond b None (unit_filled p count (first_gfi p.codes items) (filled_up p.codes count (last_data p.codes items none_yet))))
    (sym never ∙ ends)

-- ---- their check word

pub check_in : (p : Contents) (words bytes : List ℕ) (k : ℕ)
    → Some bytes ≡ bytes_carried p.codes words → k ≡ check_of p.check bytes → k ≡ check_of p.check (bytes_in p.codes words)
check_in p words bytes k h e = e ∙ ap (λ (o : Option (List ℕ)). check_of p.check (unwrap_or o [])) h

-- ---- how many semi-octets they have

joined_both : (a b : Option (List ℕ)) → IsSome (joined_to a b) → IsSome a × IsSome b
joined_both (Some xs) (Some ys) h = (refl, refl)
joined_both _ _ h = absurd (cc h)

joined_some : (a b : Option (List ℕ)) → IsSome a → IsSome b → IsSome (joined_to a b)
joined_some (Some xs) (Some ys) h k = refl
joined_some None b h k = absurd (cc h)
joined_some (Some xs) None h k = absurd (cc k)

-- one more data word
data_push : (c : Codes) (ws : List ℕ) (w : ℕ)
    → IsSome (semis_in (form_of c bus.A w)) → IsSome (semis_of_words c ws) → IsSome (semis_of_words c (ws ++ w ∷ []))
data_push c [] w h k = joined_some (semis_in (form_of c bus.A w)) (Some []) h refl
data_push c (v ∷ ws) w h k =
    let both = joined_both (semis_in (form_of c bus.A v)) (semis_of_words c ws) k in
    joined_some (semis_in (form_of c bus.A v)) (semis_of_words c (ws ++ w ∷ [])) both.0 (data_push c ws w h both.1)

-- a data word is one of bus A
on_bus_a : (p : Contents) → IsProfile p → (b : Bus) (w : ℕ) (semis : List ℕ) → Some (Part semis) ≡ form_of p.codes b w
    → IsSome (semis_in (form_of p.codes bus.A w))
on_bus_a p is b w semis e =
    let h = ((form_of-is p is b w (Part semis)).0 (sym e)).1 in
    subst (λ (x : Bus). IsSome (semis_in (form_of p.codes x w))) h.bus (subst (λ (o : Option Form). IsSome (semis_in o)) e refl)

-- what is kept are data words
data_kept : (p : Contents) → IsProfile p → (b : Bus) (w : ℕ) (o : Option Form) (r s : Last) → o ≡ form_of p.codes b w → s ≡ last_with o w r
    → IsSome (semis_of_words p.codes r.words) → IsSome (semis_of_words p.codes s.words)
data_kept p is b w o r s e g h = subst (λ (l : Last). IsSome (semis_of_words p.codes l.words)) (sym g) (by o e)
  where
    part : (t : Bool) → IsSome (semis_in (form_of p.codes bus.A w)) → IsSome (semis_of_words p.codes (cond t [] r.words ++ w ∷ []))
    part true k = data_push p.codes [] w k refl
    part false k = data_push p.codes r.words w k h

    by : (o : Option Form) → o ≡ form_of p.codes b w → IsSome (semis_of_words p.codes (last_with o w r).words)
    by (Some (Part semis)) e = part r.begins (on_bus_a p is b w semis e)
    by _ e = h

pub data_heard : (p : Contents) → IsProfile p → (items : List Seen) (n : ℕ) (w : DecodedWord) (r s : Last) → IsHeardAt p.codes items n w
    → s ≡ last_with w.form w.word r → IsSome (semis_of_words p.codes r.words) → IsSome (semis_of_words p.codes s.words)
data_heard p is items n w r s k g h =
    data_kept p is k.item.bus w.word w.form r s (sym (subst (λ (v : ℕ). form_of p.codes k.item.bus v ≡ w.form) k.word_is k.form_is)) g h

two_more : (n : ℕ) → suc (suc n) % 2 ≡ n % 2
two_more n = omega arith

some_even : (xs : List ℕ) → 1 ≤ length xs → is_some (if_some (paired xs)) ≡ not (length xs % 2 == 1)
some_even [] l = absurd (omega arith)
some_even (x ∷ []) l = refl
some_even (x ∷ y ∷ xs) l =
    mapped_some_too (paired xs) (x + 16 * y) ∙ pairs_even xs ∙ ap (λ (n : ℕ). not (n == 1)) (sym (two_more (length xs)))

-- a data word has a semi-octet
has_semi : (x : Option Form) (o : Option (List ℕ))
    → IsSome (joined_to (semis_in x) o) → IfSome x IsInRange → 1 ≤ length (unwrap_or (joined_to (semis_in x) o) [])
has_semi (Some (Part semis)) (Some ys) h r = let some = r.0 in omega (arith, length-append semis ys)
has_semi _ _ h r = absurd (cc h)

-- data words carry no bytes where their semi-octets are odd in number
pub odd_none : (p : Contents) → IsProfile p → (ws : List ℕ) → 1 ≤ length ws → IsSome (semis_of_words p.codes ws)
    → is_some (bytes_carried p.codes ws) ≡ not (are_odd p.codes ws)
odd_none p is [] l h = absurd (omega arith)
odd_none p is (w ∷ ws) l h =
    by (semis_of_words p.codes (w ∷ ws)) h
    (has_semi (form_of p.codes bus.A w) (semis_of_words p.codes ws) h (formed_range p is bus.A w (form_of p.codes bus.A w) refl))
  where
    by : (o : Option (List ℕ))
        → IsSome o → 1 ≤ length (unwrap_or o []) → is_some (if_some (option_and_then paired o)) ≡ not (length (unwrap_or o []) % 2 == 1)
    by (Some xs) h l = some_even xs l
    by None h l = absurd (cc h)
