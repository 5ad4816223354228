-- Lines of a trace, and what a word is.
use Rattle.std.proofs.Common.{◌≡◌, ◌≢◌, ℕ, ◌+◌, ◌-◌, ◌^◌, min, Bool, true, false, cond, not, List, [], ◌++◌, append_assoc, append-nil, Option, Some, None, codes, refl, sym, ap, ◌∙◌, subst, inl, inr}
use Rattle.std.proofs.lemmas.Bool.{cases_Bool}
use Rattle.std.specs.Fmt.{decimal}
use Rattle.a429_word.specs.declared.bus.Bus.{Bus}
use Rattle.a429_profile.specs.declared.codes.Codes.{Codes}
use Rattle.a429_profile.specs.Profile.{Contents}
use Rattle.a429_ldu.specs.declared.forms.Form.{Form}
use Rattle.a429_ldu.specs.declared.freedom.Freedom.{Freedom}
use Rattle.a429_ldu.specs.declared.sight.Sight.{Sight}
use Rattle.a429_ldu.specs.declared.sight.Sight.TheVariants as sight
use Rattle.a429_ldu.specs.Form.{IsFree, form_of, is_free}
use Rattle.a429_ldu.specs.Freedom.{freedom_of}
use Rattle.a429_ldu.specs.Sight.{form_in, sight_in, sight_of}
use Rattle.a429_ldu.proofs.FormFree.{is_free-decides, free_none}
use Rattle.a429_ldu.proofs.FreedomFacts.{some_where_free}
use Rattle.a429_ldu.proofs.SightFacts.{form_of-sight}
use Rattle.a429_link.specs.declared.doing.Doing.TheVariants as doing
use Rattle.a429_link.specs.Observer.{Allows, AllowsForm}
use Rattle.a429_link.specs.Implied.{Implied, crossings_of, does, implies_form, observer_of}
use Rattle.a429_cert.specs.Explained.{seen_of}
use Rattle.a429_view.specs.declared.trace.Trace.{Trace}
use Rattle.a429_record.specs.declared.entry.Entry.{Entry}
use Rattle.a429_view.specs.Block.{block_end, block_start}
use Rattle.a429_view.specs.Forms.{form_or_other_text, form_text, freedom_text, other_text, reason_or_text}
use Rattle.a429_view.specs.Trace.{GoesOn, after_text, crossings_by, doing_text, else_text, free_text, has_line, line_head, line_of}

-- ---- what a word is

-- what is known of a word by what it is seen as: whether it is free, why, and its form
abbrev pub Knows : Codes → Bus → ℕ → Sight → Type 0
Knows c b w sight.Free = (is_free c b w ≡ true) × (form_of c b w ≡ None)
Knows c b w (sight.Form x) = (is_free c b w ≡ false) × (freedom_of c b w ≡ None) × (form_of c b w ≡ Some x)
Knows c b w sight.NoForm = (is_free c b w ≡ false) × (freedom_of c b w ≡ None) × (form_of c b w ≡ None)

no_reason : (c : Codes) (b : Bus) (w : ℕ) → is_free c b w ≡ false → freedom_of c b w ≡ None
no_reason c b w e = by (freedom_of c b w) (some_where_free c b w).0
  where
    by : (o : Option Freedom) → (o ≢ None → IsFree c b w) → o ≡ None
    by None h = refl
    by (Some why) h = let free = (is_free-decides c b w).1 (h (λ n. cc n)) in absurd (cc (e, free))

pub knows : (c : Codes) (b : Bus) (w : ℕ) (s : Sight) → s ≡ sight_of c b w → Knows c b w s
knows c b w s e = subst (Knows c b w) (sym e) (elim (cases_Bool (is_free c b w)) [
  | inl free ↦
      let is : sight_of c b w ≡ sight.Free = ap (λ t. cond t sight.Free (sight_in (form_of c b w))) free in
      subst (Knows c b w) (sym is) (free, sym (form_of-sight c b w) ∙ ap form_in is)
  | inr not ↦
      let is : sight_of c b w ≡ sight_in (form_of c b w) = ap (λ t. cond t sight.Free (sight_in (form_of c b w))) not in
      subst (Knows c b w) (sym is) (by not (form_of c b w) refl)
])
  where
    by : is_free c b w ≡ false → (x : Option Form) → x ≡ form_of c b w → Knows c b w (sight_in x)
    by not (Some x) is = (not, no_reason c b w not, sym is)
    by not None is = (not, no_reason c b w not, sym is)

-- ---- lines

-- the same text, by its first part and the rest
three : (h f d n : List ℕ) → h ++ f ++ d ++ n ≡ h ++ (f ++ d ++ n)
three h f d n = ap (λ (t : List ℕ). t ++ n) (append_assoc h f d) ∙ append_assoc h (f ++ d) n

-- a block's text, in which so many words are taken of those that were asked for
pub block_text : (file ldu taken asked : ℕ)
    → block_start file ldu ++ decimal taken ++ block_end asked ≡ codes " | " ++ doing_text (doing.InBlock file ldu taken asked)
block_text file ldu taken asked =
    append_assoc (block_start file ldu) (decimal taken) (block_end asked)
    ∙ ap (λ t. block_start file ldu ++ t) (sym (three (decimal taken) (codes " of ") (decimal asked) (codes " data words")))

where_true : (t : Bool) (x : List ℕ) → t ≡ true → cond t x [] ≡ x
where_true true x e = refl
where_true false x e = absurd (cc e)

where_false : (t : Bool) (x : List ℕ) → t ≡ false → cond t x [] ≡ []
where_false false x e = refl
where_false true x e = absurd (cc e)

-- a line by the reason why its word is free and by its form
abbrev line_by : Contents → ℕ → Implied → Entry → Option Freedom → Option Form → List ℕ
line_by p n k e why x =
    line_head n e ++ reason_or_text why (form_or_other_text p.codes x (other_text p.codes e.bus e.word))
    ++ after_text p k e.bus e.word why x ++ codes "\n"

pub no_line : (p : Contents) (n : ℕ) (k : Implied) (e : Entry) → has_line p.codes e ≡ false → line_of p n k e ≡ []
no_line p n k e h = where_false (has_line p.codes e) (line_by p n k e (freedom_of p.codes e.bus e.word) (form_of p.codes e.bus e.word)) h

some_line : (p : Contents) (n : ℕ) (k : Implied) (e : Entry)
    → has_line p.codes e ≡ true → line_of p n k e ≡ line_by p n k e (freedom_of p.codes e.bus e.word) (form_of p.codes e.bus e.word)
some_line p n k e h = where_true (has_line p.codes e) (line_by p n k e (freedom_of p.codes e.bus e.word) (form_of p.codes e.bus e.word)) h

pub free_line : (p : Contents) (n : ℕ) (k : Implied) (e : Entry) → has_line p.codes e ≡ true → is_free p.codes e.bus e.word ≡ true
    → line_of p n k e ≡ line_head n e ++ (free_text p.codes e.bus e.word (freedom_of p.codes e.bus e.word) ++ codes "\n")
free_line p n k e h free = some_line p n k e h ∙ by (freedom_of p.codes e.bus e.word) (form_of p.codes e.bus e.word)
    ((some_where_free p.codes e.bus e.word).1 ((is_free-decides p.codes e.bus e.word).0 free))
  where
    by : (o : Option Freedom) (x : Option Form)
        → o ≢ None → line_by p n k e o x ≡ line_head n e ++ (free_text p.codes e.bus e.word o ++ codes "\n")
    by None x some = absurd (some refl)
    by (Some why) x some = three (line_head n e) (freedom_text why) (else_text p.codes e.bus e.word why) (codes "\n")

pub allowed_line : (p : Contents) (n : ℕ) (k : Implied) (e : Entry) (x : Form)
    → has_line p.codes e ≡ true → freedom_of p.codes e.bus e.word ≡ None → form_of p.codes e.bus e.word ≡ Some x
    → line_of p n k e ≡ line_head n e ++ (form_text p.codes x ++ (codes " | " ++ doing_text (does p e.bus e.word x k.sink)) ++ codes "\n")
allowed_line p n k e x h free is =
    some_line p n k e h
    ∙ ap (λ (o : Option Freedom). line_by p n k e o (form_of p.codes e.bus e.word)) free
    ∙ ap (λ (f : Option Form). line_by p n k e None f) is
    ∙ three (line_head n e) (form_text p.codes x) (codes " | " ++ doing_text (does p e.bus e.word x k.sink)) (codes "\n")

-- ---- one more entry

-- a free word changes nothing
pub goes_free : (p : Contents) (e : Entry) (old new : Trace) → is_free p.codes e.bus e.word ≡ true
    → new.entries ≡ min (old.entries + 1) (2 ^ 64 - 1) → new.sink ≡ old.sink → new.files.items ≡ old.files.items → GoesOn p e old new
goes_free p e old new free entries sink files =
    let none = free_none p.codes e.bus e.word free in
    record {
      allowed = inl free;
      entries = entries;
      sink = sink ∙ ap (λ (x : Option Form). implies_form p e.bus e.word x old.sink) (sym none);
      files = files ∙ sym (append-nil old.files.items)
          ∙ ap (λ (x : Option Form). old.files.items ++ crossings_by p e.bus e.word x old.sink) (sym none);
    }

pub goes_form : (p : Contents) (e : Entry) (x : Form) (old new : Trace) → form_of p.codes e.bus e.word ≡ Some x
    → AllowsForm (observer_of old.sink) e.bus (Some x) → new.entries ≡ min (old.entries + 1) (2 ^ 64 - 1)
    → new.sink ≡ implies_form p e.bus e.word (Some x) old.sink
    → new.files.items ≡ old.files.items ++ crossings_of (does p e.bus e.word x old.sink.sink) → GoesOn p e old new
goes_form p e x old new is allowed entries sink files = record {
  allowed = inr (subst (AllowsForm (observer_of old.sink) e.bus) (sym is) allowed);
  entries = entries;
  sink = sink ∙ ap (λ (f : Option Form). implies_form p e.bus e.word f old.sink) (sym is);
  files = files ∙ ap (λ (f : Option Form). old.files.items ++ crossings_by p e.bus e.word f old.sink) (sym is);
}

-- a word that is not free is allowed by its form alone
pub by_form_alone : (p : Contents) (e : Entry) (k : Implied) (x : Option Form) → is_free p.codes e.bus e.word ≡ false
    → form_of p.codes e.bus e.word ≡ x → (AllowsForm (observer_of k) e.bus x → ⊥) → Allows p (observer_of k) (seen_of e) → ⊥
by_form_alone p e k x kept is never (inl free) = absurd (cc (kept, free))
by_form_alone p e k x kept is never (inr a) = never (subst (AllowsForm (observer_of k) e.bus) is a)
