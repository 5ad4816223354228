-- The roles of a recording's words, from the last to the first.
use Rattle.std.proofs.Common.{◌≡◌, ℕ, zero, suc, ◌+◌, ◌<◌, ◌≤◌, List, [], ◌∷◌, length, drop, get_or, set, slice_get, Option, Some, None, false, refl, sym, ap, ◌∙◌, subst, arith}
use Rattle.std.proofs.lemmas.List.{drop-set, drop_all, length-map, length-set}
use Rattle.a429_profile.specs.declared.codes.Codes.{Codes}
use Rattle.a429_ldu.specs.declared.forms.Form.{Form}
use Rattle.a429_ldu.specs.declared.forms.Form.TheVariants.{Rts, Cts, Ack, Nak, Sot, Part, Eot}
use Rattle.a429_ldu.specs.declared.sight.Sight.{Sight}
use Rattle.a429_ldu.specs.declared.sight.Sight.TheVariants as sight
use Rattle.a429_ldu.specs.Form.{form_of}
use Rattle.a429_ldu.specs.Sight.{form_in, sight_of}
use Rattle.a429_ldu.proofs.SightFacts.{form_of-sight}
use Rattle.a429_link.specs.declared.seen.Seen.{Seen}
use Rattle.a429_explain.specs.declared.attempts.Role.{Role}
use Rattle.a429_explain.specs.declared.attempts.Role.TheVariants as role
use Rattle.a429_explain.specs.declared.attempts.Ahead.{Ahead}
use Rattle.a429_explain.specs.declared.decoded.DecodedWord.{DecodedWord}
use Rattle.a429_explain.specs.Decoded.{sight_at, IsHeardAt, forms_of}
use Rattle.a429_explain.specs.Attempts.{next_start, role_of, roles, IsAhead}
use Rattle.a429_explain.specs.Groups.{asked}
use Rattle.a429_explain.specs.Guess.{started, file_of}
use Rattle.a429_explain.specs.Whole.{wanted}
use Rattle.a429_explain.proofs.DecodedFacts.{forms_from}

-- a word of a block
abbrev pub IsOfBlock : Option Form → Type 0
IsOfBlock (Some (Sot gfi file ldu)) = Unit {0}
IsOfBlock (Some (Part semis)) = Unit {0}
IsOfBlock (Some (Eot flags check)) = Unit {0}
IsOfBlock _ = ⊥

-- where the pass has come to: from this place on each word has its role
pub record Stands (said : List (Option Form)) (left : ℕ) (found : List Role) (ahead : Ahead) : Type 0 where
  pub found_is : drop left found ≡ roles (drop left said)
  pub ahead_is : IsAhead (drop left said) ahead
  pub inside : left ≤ length said
  pub length_is : length found ≡ length said

-- before the first
pub stands_first : (c : Codes) (items : List Seen) (found : List Role)
    → length found ≡ length items
    → Stands (forms_of c items) (length items) found (record { sends_block = false; attempt = None; start = None })
stands_first c items found all =
    let same : length (forms_of c items) ≡ length items = length-map items (λ (i : Seen). form_of c i.bus i.word) in
    let end : drop (length items) (forms_of c items) ≡ [] = drop_all (length items) (forms_of c items) (omega (arith, same)) in
    let none : drop (length items) found ≡ [] = drop_all (length items) found (omega (arith, all)) in
    record {
      found_is = none ∙ ap roles (sym end);
      ahead_is =
          subst (λ (xs : List (Option Form)). IsAhead xs (record { sends_block = false; attempt = None; start = None })) (sym end)
          (record { sends_is = refl; attempt_is = refl; start_is = refl });
      inside = omega (arith, same);
      length_is = all ∙ sym same;
    }

-- a word before it has its role
pub stands_next : (c : Codes) (items : List Seen) (n left : ℕ) (h : DecodedWord) (found new : List Role) (ahead next : Ahead) (r : Role)
    → n + 1 ≡ left → IsHeardAt c items n h → ((more : List (Option Form)) → IsAhead more ahead → r ≡ role_of h.form more)
    → ((more : List (Option Form)) → IsAhead more ahead → IsAhead (h.form ∷ more) next) → new ≡ set found n r
    → Stands (forms_of c items) left found ahead → Stands (forms_of c items) n new next
stands_next c items n left h found new ahead next r l k role goes written s =
    let forms = forms_of c items in
    let here : drop n forms ≡ h.form ∷ drop left forms = forms_from c items n h k ∙ ap (λ (m : ℕ). h.form ∷ drop m forms) l in
    let inside = s.inside in
    let all = s.length_is in
    record {
      found_is =
          ap (drop n) written ∙ drop-set found n r (omega (arith, l, inside, all))
          ∙ ap (λ (m : ℕ). r ∷ drop m found) l
          ∙ ap (λ (q : Role). q ∷ drop left found) (role (drop left forms) s.ahead_is)
          ∙ ap (λ (rs : List Role). role_of h.form (drop left forms) ∷ rs) s.found_is ∙ ap roles (sym here);
      ahead_is = subst (λ (xs : List (Option Form)). IsAhead xs next) (sym here) (goes (drop left forms) s.ahead_is);
      inside = omega (arith, l, inside);
      length_is = ap length written ∙ length-set found n r ∙ all;
    }

-- and at the end
pub stands_last : (said : List (Option Form)) (left : ℕ) (found : List Role) (ahead : Ahead)
    → left ≡ 0 → Stands said left found ahead → found ≡ roles said
stands_last said left found ahead none s = subst (λ (n : ℕ). drop n found ≡ roles (drop n said)) none s.found_is

-- each word has its role
pub length-roles : (c : Codes) (items : List Seen) → length (roles (forms_of c items)) ≡ length items
length-roles c [] = refl
length-roles c (i ∷ items) = ap suc (length-roles c items)

pub roles_long : (c : Codes) (items : List Seen) (rs : List Role) → rs ≡ roles (forms_of c items) → length rs ≡ length items
roles_long c items rs e = ap length e ∙ length-roles c items

-- ---- the requests

asks : (s : Sight) (more : List (Option Form)) → asked (role_of (form_in s) more) ≡ wanted s
asks sight.Free more = refl
asks sight.NoForm more = refl
asks (sight.Form (Rts n)) more = refl
asks (sight.Form (Cts n)) more = refl
asks (sight.Form (Ack f l)) more = refl
asks (sight.Form (Nak b)) more = refl
asks (sight.Form (Sot g f l)) more = refl
asks (sight.Form (Part s)) more = refl
asks (sight.Form (Eot f k)) more = refl

-- a role says how many words a request asks for
pub asked_is : (c : Codes) (items : List Seen) (rs : List Role) (n : ℕ) (d : Role)
    → rs ≡ roles (forms_of c items) → n < length items → asked (get_or rs n d) ≡ wanted (sight_at c (slice_get items n))
asked_is c items rs n d all l = ap (λ (xs : List Role). asked (get_or xs n d)) all ∙ by items n l
  where
    by : (items : List Seen) (n : ℕ)
        → n < length items → asked (get_or (roles (forms_of c items)) n d) ≡ wanted (sight_at c (slice_get items n))
    by [] n l = absurd (omega arith)
    by (i ∷ items) zero l = ap (λ (o : Option Form). asked (role_of o (forms_of c items))) (sym (form_of-sight c i.bus i.word))
        ∙ asks (sight_of c i.bus i.word) (forms_of c items)
    by (i ∷ items) (suc n) l = by items n (omega arith)

-- ---- the role of a word

-- a word of this form has this role, by what comes after it
pub record IsRole (r : Role) (o : Option Form) : Type 0 where
  pub more : List (Option Form)
  pub is : r ≡ role_of o more

pub role_here : (c : Codes) (items : List Seen) (rs : List Role) (n : ℕ) (d : Role) (i : Seen)
    → rs ≡ roles (forms_of c items) → slice_get items n ≡ Some i → IsRole (get_or rs n d) (form_of c i.bus i.word)
role_here c items rs n d i all at = subst (λ (xs : List Role). IsRole (get_or xs n d) (form_of c i.bus i.word)) (sym all) (by items n at)
  where
    by : (items : List Seen) (n : ℕ) → slice_get items n ≡ Some i → IsRole (get_or (roles (forms_of c items)) n d) (form_of c i.bus i.word)
    by [] n at = absurd (cc at)
    by (x ∷ items) zero at =
        record { more = forms_of c items; is = ap (λ (j : Seen). role_of (form_of c j.bus j.word) (forms_of c items)) (cc at) }
    by (x ∷ items) (suc n) at = by items n at

-- one of a block has a form of one
pub of_block : (r : Role) (o : Option Form) → IsRole r o → r ≡ role.OfBlock → IsOfBlock o
of_block r o h e = by o (sym h.is ∙ e)
  where
    by : (o : Option Form) → role_of o h.more ≡ role.OfBlock → IsOfBlock o
    by (Some (Sot g f l)) e = tt
    by (Some (Part s)) e = tt
    by (Some (Eot f k)) e = tt
    by (Some (Rts n)) e = absurd (cc e)
    by (Some (Cts n)) e = absurd (cc e)
    by (Some (Ack f l)) e = absurd (cc e)
    by (Some (Nak b)) e = absurd (cc e)
    by None e = absurd (cc e)

-- ---- the next start word

pub start_here : (x : Option Form) (more : List (Option Form)) (file : ℕ) → Some file ≡ started x → file ≡ file_of (next_start (x ∷ more))
start_here (Some (Sot g f l)) more file e = cc
start_here (Some (Rts n)) more file e = absurd (cc e)
start_here (Some (Cts n)) more file e = absurd (cc e)
start_here (Some (Ack f l)) more file e = absurd (cc e)
start_here (Some (Nak b)) more file e = absurd (cc e)
start_here (Some (Part s)) more file e = absurd (cc e)
start_here (Some (Eot f k)) more file e = absurd (cc e)
start_here None more file e = absurd (cc e)

pub start_past : (x : Option Form) (more : List (Option Form)) → None ≡ started x → next_start (x ∷ more) ≡ next_start more
start_past (Some (Sot g f l)) more e = absurd (cc e)
start_past (Some (Rts n)) more e = refl
start_past (Some (Cts n)) more e = refl
start_past (Some (Ack f l)) more e = refl
start_past (Some (Nak b)) more e = refl
start_past (Some (Part s)) more e = refl
start_past (Some (Eot f k)) more e = refl
start_past None more e = refl
