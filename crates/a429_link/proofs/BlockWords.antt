-- The words of a link data unit's block by their forms: one start word, one end word.
use Rattle.std.proofs.Common.{◌≡◌, ◌⊎◌, ℕ, List, [], ◌∷◌, ◌++◌, Option, Some, sym, ap, ◌∙◌, subst, inl, inr}
use Rattle.a429_word.specs.declared.bus.Bus.TheVariants as bus
use Rattle.a429_profile.specs.Profile.{Contents, IsProfile}
use Rattle.a429_ldu.specs.declared.forms.Form.{Form}
use Rattle.a429_ldu.specs.declared.forms.Form.TheVariants as form
use Rattle.a429_ldu.specs.Form.{form_of, word_number}
use Rattle.a429_ldu.specs.Ldu.{LduValue, IsLdu, block_of}
use Rattle.a429_ldu.proofs.FormFacts.{form_of-is}
use Rattle.a429_link.specs.declared.number.UnitNumber.{UnitNumber}
use Rattle.a429_link.specs.Attempt.{IsStartOf}
use Rattle.a429_link.specs.Run.{IsSubsequenceOf}
use Rattle.a429_link.proofs.Message.{AllParts, Eot, IsRead, Part, Sot, end_message, message_in, message_of}

-- a word is one of these
abbrev pub IsIn : ℕ → List ℕ → Type 0
IsIn w [] = ⊥
IsIn w (x ∷ xs) = (w ≡ x) ⊎ IsIn w xs

pub in_back : (w : ℕ) (xs ys : List ℕ) → IsIn w ys → IsIn w (xs ++ ys)
in_back w [] ys h = h
in_back w (x ∷ xs) ys h = inr (in_back w xs ys h)

-- some of a list's words are in it
pub in_whole : (w : ℕ) (xs ys : List ℕ) → IsSubsequenceOf xs ys → IsIn w xs → IsIn w ys
in_whole w xs [] h i = subst (IsIn w) h i
in_whole w xs (y ∷ ys) (inl h) i = inr (in_whole w xs ys h i)
in_whole w xs (y ∷ ys) (inr (zs, e, h)) i =
    elim (subst (IsIn w) e i) [
      | inl q ↦ inl q
      | inr q ↦ inr (in_whole w zs ys h q)
    ]

-- a word of a block is its start word, a data word or its end word
pub data InBlock (p : Contents) (u : LduValue) (n : UnitNumber) (w : ℕ) : Type 0 where
  is_start : w ≡ word_number p.codes (form.Sot u.gfi n.file n.ldu) → InBlock p u n w
  is_part : message_of p bus.A w ≡ Some (Part w) → InBlock p u n w
  is_end : w ≡ word_number p.codes (form.Eot u.flags u.check) → InBlock p u n w

parts_or_end : (p : Contents) (u : LduValue) (n : UnitNumber) (w : ℕ) (ws : List ℕ)
    → AllParts p ws → IsIn w (ws ++ word_number p.codes (form.Eot u.flags u.check) ∷ []) → InBlock p u n w
parts_or_end p u n w [] h (inl e) = is_end e
parts_or_end p u n w [] h (inr i) = absurd i
parts_or_end p u n w (v ∷ ws) h (inl e) = is_part (subst (λ x. message_of p bus.A x ≡ Some (Part x)) (sym e) h.0)
parts_or_end p u n w (v ∷ ws) h (inr i) = parts_or_end p u n w ws h.1 i

pub in_block : (p : Contents)
    → IsRead p → (u : LduValue) (n : UnitNumber) (w : ℕ) → IsLdu p u → IsIn w (block_of p.codes u n.file n.ldu) → InBlock p u n w
in_block p good u n w is (inl e) = is_start e
in_block p good u n w is (inr i) = parts_or_end p u n w u.words (good.fit u is).parts i

-- a word with a form says this
said_start : (p : Contents) (n : UnitNumber) (w : ℕ) (o : Option Form)
    → IsStartOf n o → (g : ℕ) × (message_in w o ≡ Some (Sot g n.file n.ldu)) × (o ≡ Some (form.Sot g n.file n.ldu))
said_start p n w (Some (form.Sot g f l)) h =
    (g, ap (λ (m : UnitNumber). Some (Sot g m.file m.ldu)) h, ap (λ (m : UnitNumber). Some (form.Sot g m.file m.ldu)) h)
said_start p n w _ h = absurd h

end_says : (p : Contents)
    → IsRead p → (u : LduValue) → IsLdu p u → message_of p bus.A (word_number p.codes (form.Eot u.flags u.check)) ≡ Some (end_message u)
end_says p good u is = let f = good.fit u is in good.reads bus.A (end_message u) (f.flags, f.check)

-- a start word in the block is its start word
pub start_of_block : (p : Contents) → IsRead p → (u : LduValue) (n : UnitNumber) (w : ℕ) → IsLdu p u → IsStartOf n (form_of p.codes bus.A w)
    → IsIn w (block_of p.codes u n.file n.ldu) → w ≡ word_number p.codes (form.Sot u.gfi n.file n.ldu)
start_of_block p good u n w is h i = by (in_block p good u n w is i)
  where
    by : InBlock p u n w → w ≡ word_number p.codes (form.Sot u.gfi n.file n.ldu)
    by (is_start e) = e
    by (is_part e) = let s = (said_start p n w (form_of p.codes bus.A w) h).1 in absurd (cc (e, s))
    by (is_end e) =
        let s = (said_start p n w (form_of p.codes bus.A w) h).1 in
        let t = ap (message_of p bus.A) e ∙ end_says p good u is in absurd (cc (s, t))

-- an end word in the block is its end word
pub end_of_block : (p : Contents) → IsProfile p → IsRead p → (u : LduValue) (n : UnitNumber) (v w flags check : ℕ) → IsLdu p u
    → IsStartOf n (form_of p.codes bus.A v) → form_of p.codes bus.A w ≡ Some (form.Eot flags check)
    → IsIn w (block_of p.codes u n.file n.ldu) → w ≡ word_number p.codes (form.Eot u.flags u.check)
end_of_block p sound good u n v w flags check is h e i = by (in_block p good u n w is i)
  where
    says : message_of p bus.A w ≡ Some (Eot flags check)
    says = ap (message_in w) e

    by : InBlock p u n w → w ≡ word_number p.codes (form.Eot u.flags u.check)
    by (is_end q) = q
    by (is_part q) = let s = says in absurd (cc (q, s))
    by (is_start q) =
        let s = said_start p n v (form_of p.codes bus.A v) h in
        let range = ((form_of-is p sound bus.A v (form.Sot s.0 n.file n.ldu)).0 s.2).1.range in
        let f = good.fit u is in
        let t = ap (message_of p bus.A) q ∙ good.reads bus.A (Sot u.gfi n.file n.ldu) (f.gfi, range.1, range.2) in
        let r = says in
        absurd (cc (r, t))
