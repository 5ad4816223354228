-- A recording without loss is written by the steps of its run.
use Rattle.std.proofs.Common.{◌≡◌, ℕ, zero, suc, ◌+◌, ◌≤◌, ◌<◌, ◌==◌, Bool, true, false, cond, not, List, [], ◌∷◌, ◌++◌, map, length, take, drop, get_or, Option, Some, None, refl, sym, ap, ◌∙◌, subst, arith, append_assoc, drop-cons, eq-eqb}
use Rattle.std.proofs.Math.Seq.{take-suc}
use Rattle.a429_word.specs.declared.bus.Bus.TheVariants as bus
use Rattle.a429_profile.specs.declared.codes.Codes.{Codes}
use Rattle.a429_profile.specs.Profile.{Contents, IsProfile}
use Rattle.a429_ldu.specs.declared.forms.Form.{Form}
use Rattle.a429_ldu.specs.declared.forms.Form.TheVariants.{Rts, Cts, Ack, Nak, Sot, Part, Eot}
use Rattle.a429_ldu.specs.Form.{form_of, is_free, word_number}
use Rattle.a429_ldu.specs.Sight.{sight_of}
use Rattle.a429_ldu.specs.Ldu.{LduValue, block_of, count_of}
use Rattle.a429_link.specs.declared.seen.Seen.{Seen}
use Rattle.a429_link.specs.declared.step.Step.{Step}
use Rattle.a429_link.specs.declared.step.Step.TheVariants.{FreeSeen}
use Rattle.a429_link.specs.Clean.{clean_blocks, AllFit, without_free, requests, replies, clean_steps, first_of, rest_of, weave}
use Rattle.a429_link.specs.Carry.{on_a, on_b, sends_word}
use Rattle.a429_link.specs.Link.{LinkValue}
use Rattle.a429_link.specs.Run.{IsRun, end_of}
use Rattle.a429_link.specs.Step.{Can}
use Rattle.a429_link.specs.State.{start, rest}
use Rattle.a429_link.proofs.CleanOffers.{clean_is_run}
use Rattle.a429_link.proofs.CleanRuns.{run_split}
use Rattle.a429_record.specs.declared.entry.Entry.{Entry}
use Rattle.a429_ldu.proofs.FormFree.{free_none}
use Rattle.a429_cert.specs.Explained.{seen_of, items_of}
use Rattle.a429_link.specs.declared.number.UnitNumber.{UnitNumber}
use Rattle.a429_explain.specs.declared.attempts.StartNumbers.{StartNumbers}
use Rattle.a429_explain.specs.declared.attempts.Role.{Role}
use Rattle.a429_explain.specs.declared.attempts.Role.TheVariants as role
use Rattle.a429_explain.specs.declared.plan.Plan.{Plan}
use Rattle.a429_explain.specs.Plan.{plain, plan_for, plans_left}
use Rattle.a429_explain.specs.Guess.{decoded, plain_plans, HaveCrossed}
use Rattle.a429_explain.specs.Whole.{wanted}
use Rattle.a429_explain.specs.Attempts.{attempt_start, sends_block as sends_words, are_numbers, role_of, roles}
use Rattle.a429_explain.specs.Decoded.{forms_of}
use Rattle.a429_explain.specs.Scribe.{IsLossless, lossless_steps, link_after}
use Rattle.a429_explain.proofs.CleanBlock.{AreOfBlock, block_has_forms, formed_sight}
use Rattle.a429_explain.proofs.PlainPlans.{IsOther, other_wants, plain_asked, plain_past}
use Rattle.a429_explain.proofs.CleanGroups.{unit_has_forms, next_start_other, attempt_start_is, start_numbers}
use Rattle.a429_explain.proofs.MatchingFacts.{get_item}
use Rattle.a429_explain.proofs.Thinned.{attempt_start-thin, next_start-thin}
use Rattle.a429_link.specs.Number.{first_number, number_after}
use Rattle.a429_link.proofs.NumberFacts.{next_byte}
use Rattle.a429_cert.proofs.ItemsFacts.{length-items_of}
use Rattle.a429_explain.proofs.AttemptsFacts.{IsOfBlock}

-- ---- roles, free words left out

abbrev pub role_in : Codes → Seen → List Seen → Role
role_in c i more = role_of (form_of c i.bus i.word) (forms_of c more)

sends-cons : (o : Option Form) (xs ys : List (Option Form)) → sends_words xs ≡ sends_words ys → sends_words (o ∷ xs) ≡ sends_words (o ∷ ys)
sends-cons (Some (Rts n)) xs ys e = refl
sends-cons (Some (Sot g f l)) xs ys e = refl
sends-cons (Some (Part s)) xs ys e = refl
sends-cons (Some (Eot f k)) xs ys e = refl
sends-cons _ xs ys e = e

sends-none : (o : Option Form) (xs : List (Option Form)) → o ≡ None → sends_words (o ∷ xs) ≡ sends_words xs
sends-none None xs e = refl
sends-none (Some x) xs e = absurd (cc e)

sends-thin : (c : Codes) (items : List Seen) → sends_words (forms_of c (without_free c items)) ≡ sends_words (forms_of c items)
sends-thin c [] = refl
sends-thin c (i ∷ items) = by (is_free c i.bus i.word) refl (sends-thin c items)
  where
    by : (b : Bool) → is_free c i.bus i.word ≡ b → sends_words (forms_of c (without_free c items)) ≡ sends_words (forms_of c items)
        → sends_words (forms_of c (cond b (without_free c items) (i ∷ without_free c items))) ≡ sends_words (forms_of c (i ∷ items))
    by true e more = more ∙ sym (sends-none (form_of c i.bus i.word) (forms_of c items) (free_none c i.bus i.word e))
    by false e more = sends-cons (form_of c i.bus i.word) (forms_of c (without_free c items)) (forms_of c items) more

-- a role looks at no free words
role_thin : (c : Codes) (i : Seen) (items : List Seen) → role_in c i items ≡ role_in c i (without_free c items)
role_thin c i items = by (form_of c i.bus i.word)
  where
    by : (o : Option Form) → role_of o (forms_of c items) ≡ role_of o (forms_of c (without_free c items))
    by (Some (Cts n)) = ap (λ (b : Bool). role.Clear b) (sym (sends-thin c items))
    by (Some (Ack f l)) = ap (λ (o : Option StartNumbers). role.Acknowledged (not (are_numbers o f l))) (sym (next_start-thin c items))
    by None = refl
    by (Some (Rts n)) = ap (λ (o : Option StartNumbers). role.Request n o) (sym (attempt_start-thin c items))
    by (Some (Nak b)) = refl
    by (Some (Sot g f l)) = refl
    by (Some (Part s)) = refl
    by (Some (Eot f k)) = refl

-- ---- the plan

-- before the next request no file is given up, and the first of these units is loaded
abbrev pub next_plain : List LduValue → Option Plan
next_plain [] = None
next_plain (u ∷ us) = Some (plain 0 u)

abbrev pub units_left : Role → List LduValue → List LduValue
units_left (role.Request n start) us = rest us
units_left _ us = us

-- for each word the steps that are written for it
abbrev AreLosslessSteps : Codes → List Seen → List (List Step) → List LduValue → Type 0
AreLosslessSteps c [] gs us = Unit {0}
AreLosslessSteps c (i ∷ xs) gs us = (first_of gs ≡ lossless_steps (role_in c i xs) i (next_plain us))
    × IsLossless (role_in c i xs) (next_plain us) × AreLosslessSteps c xs (rest_of gs) (units_left (role_in c i xs) us)

planned_cons : (c : Codes) (i : Seen) (xs : List Seen) (g : List Step) (gs : List (List Step)) (us : List LduValue) (r : Role)
    → role_in c i xs ≡ r → g ≡ lossless_steps r i (next_plain us) → IsLossless r (next_plain us)
    → AreLosslessSteps c xs gs (units_left r us) → AreLosslessSteps c (i ∷ xs) (g ∷ gs) us
planned_cons c i xs g gs us r e steps plain more = rw e (steps, plain, more)

-- the plan that is carried out before word n is that of the next unit
record IsPlanned (c : Codes) (n : ℕ) (i : Seen) (items : List Seen) (r : Role) (us : List LduValue) (plans : List Plan) : Type 0 where
  lossless : IsLossless r (plan_for r n plans)
  steps : lossless_steps r i (next_plain us) ≡ lossless_steps r i (plan_for r n plans)
  left : plans_left r n plans ≡ plain_plans c (n + 1) (units_left r us) items

planned_asked : (c : Codes) (n : ℕ) (i : Seen) (items : List Seen) (k : ℕ) (first : Option StartNumbers) (us : List LduValue)
    (plans : List Plan)
    → wanted (sight_of c i.bus i.word) ≡ Some k → plans ≡ plain_plans c n us (i ∷ items) → IsLossless (role.Request k first) (next_plain us)
    → IsPlanned c n i items (role.Request k first) us plans
planned_asked c n i items k first [] plans w e h = absurd (cc h)
planned_asked c n i items k first (u ∷ us) plans w e h =
    let r = role.Request k first in
    let more = plain_plans c (n + 1) us items in
    let here : (n == n) ≡ true = eq-eqb n n refl in
    let next : plan_for r n (plain n u ∷ more) ≡ Some (plain n u) = ap (λ (t : Bool). cond t (Some (plain n u)) None) here in
    subst (IsPlanned c n i items r (u ∷ us)) (sym (e ∙ plain_asked c n u us i items k w)) (record {
      lossless = subst (IsLossless r) (sym next) refl;
      steps = ap (lossless_steps r i) (sym next);
      left = ap (λ (t : Bool). cond t more (plain n u ∷ more)) here;
    })

abbrev IsNoRequest : Role → Type 0
IsNoRequest (role.Request n start) = ⊥
IsNoRequest _ = Unit {0}

planned_other : (c : Codes) (n : ℕ) (i : Seen) (items : List Seen) (r : Role) (us : List LduValue) (plans : List Plan)
    → IsNoRequest r → plans ≡ plain_plans c (n + 1) us items → IsLossless r (next_plain us) → IsPlanned c n i items r us plans
planned_other c n i items role.Free us plans k e h = record { lossless = h; steps = refl; left = e }
planned_other c n i items (role.Request m s) us plans k e h = absurd k
planned_other c n i items (role.Clear used) us plans k e h = record { lossless = h; steps = refl; left = e }
planned_other c n i items role.OfBlock us plans k e h = record { lossless = h; steps = refl; left = e }
planned_other c n i items role.Refused us plans k e h = record { lossless = h; steps = refl; left = e }
planned_other c n i items (role.Acknowledged ends) us plans k e h = record { lossless = h; steps = refl; left = e }

planned_word : (c : Codes) (n : ℕ) (i : Seen) (items more : List Seen) (us : List LduValue) (plans : List Plan)
    → plans ≡ plain_plans c n us (i ∷ items) → IsLossless (role_in c i more) (next_plain us)
    → IsPlanned c n i items (role_in c i more) us plans
planned_word c n i items more us plans e h = by (form_of c i.bus i.word) refl h
  where
    other : (o : Option Form) → form_of c i.bus i.word ≡ o → IsOther o → IsNoRequest (role_of o (forms_of c more))
        → IsLossless (role_of o (forms_of c more)) (next_plain us) → IsPlanned c n i items (role_of o (forms_of c more)) us plans
    other o f k m l =
        planned_other c n i items (role_of o (forms_of c more)) us plans m
        (e ∙ plain_past c n us i items (other_wants c i.bus i.word o f k)) l

    by : (o : Option Form) → form_of c i.bus i.word ≡ o → IsLossless (role_of o (forms_of c more)) (next_plain us)
        → IsPlanned c n i items (role_of o (forms_of c more)) us plans
    by (Some (Rts k)) f l =
        planned_asked c n i items k (attempt_start (forms_of c more)) us plans (ap wanted (formed_sight c i.bus i.word (Rts k) f)) e l
    by None f l = other None f tt tt l
    by (Some (Cts k)) f l = other (Some (Cts k)) f tt tt l
    by (Some (Ack a b)) f l = other (Some (Ack a b)) f tt tt l
    by (Some (Nak b)) f l = other (Some (Nak b)) f tt tt l
    by (Some (Sot a b d)) f l = other (Some (Sot a b d)) f tt tt l
    by (Some (Part q)) f l = other (Some (Part q)) f tt tt l
    by (Some (Eot a b)) f l = other (Some (Eot a b)) f tt tt l

-- the words to come, from place n on, are those of a run without loss that goes on from the link
pub record OnPlan (p : Contents) (items : List Seen) (n : ℕ) (plans : List Plan) (l : LinkValue) : Type 0 where
  profile : l.profile ≡ p
  units : List LduValue
  plans_are : plans ≡ plain_plans p.codes n units items
  groups : List (List Step)
  run : IsRun p (weave p.codes items groups) l.state
  planned : AreLosslessSteps p.codes (without_free p.codes items) groups units

-- the next word is written by its steps, and the plan goes on after them
pub record Goes (p : Contents) (i : Seen) (items : List Seen) (n : ℕ) (r : Role) (plans : List Plan) (l : LinkValue) : Type 0 where
  pub lossless : IsLossless r (plan_for r n plans)
  pub run : IsRun p (lossless_steps r i (plan_for r n plans)) l.state
  pub more : OnPlan p items (n + 1) (plans_left r n plans) (link_after (lossless_steps r i (plan_for r n plans)) l)

goes_free : (p : Contents) (i : Seen) (items : List Seen) (n : ℕ) (us : List LduValue) (plans : List Plan) (l : LinkValue)
    (gs : List (List Step))
    → l.profile ≡ p → plans ≡ plain_plans p.codes (n + 1) us items → Can p (FreeSeen i) l.state → IsRun p (weave p.codes items gs) l.state
    → AreLosslessSteps p.codes (without_free p.codes items) gs us → Goes p i items n role.Free plans l
goes_free p i items n us plans l gs e are can run planned = record {
  lossless = tt;
  run = (can, tt);
  more = record { profile = e; units = us; plans_are = are; groups = gs; run = run; planned = planned };
}

goes_word : (p : Contents) (i : Seen) (items : List Seen) (n : ℕ) (r : Role) (us : List LduValue) (plans : List Plan) (l : LinkValue)
    (gs : List (List Step))
    → l.profile ≡ p → first_of gs ≡ lossless_steps r i (next_plain us) → IsPlanned p.codes n i items r us plans
    → IsRun p (first_of gs ++ weave p.codes items (rest_of gs)) l.state
    → AreLosslessSteps p.codes (without_free p.codes items) (rest_of gs) (units_left r us) → Goes p i items n r plans l
goes_word p i items n r us plans l gs e steps k run planned =
    let made = lossless_steps r i (plan_for r n plans) in
    let parts =
    run_split p made (weave p.codes items (rest_of gs)) l.state
    (subst (λ (g : List Step). IsRun p (g ++ weave p.codes items (rest_of gs)) l.state) (steps ∙ k.steps) run) in
    record {
      lossless = k.lossless;
      run = parts.0;
      more = record {
        profile = e;
        units = units_left r us;
        plans_are = k.left;
        groups = rest_of gs;
        run = subst (λ q. IsRun p (weave p.codes items (rest_of gs)) (end_of q made l.state)) (sym e) parts.1;
        planned = planned;
      };
    }

pub goes_on : (p : Contents) (i : Seen) (items : List Seen) (n : ℕ) (plans : List Plan) (l : LinkValue)
    → OnPlan p (i ∷ items) n plans l → Goes p i items n (role_in p.codes i items) plans l
goes_on p i items n plans l h = by (is_free p.codes i.bus i.word) refl h.run h.planned
  where
    by : (b : Bool) → is_free p.codes i.bus i.word ≡ b
        → IsRun p (cond b (FreeSeen i ∷ weave p.codes items h.groups) (first_of h.groups ++ weave p.codes items (rest_of h.groups))) l.state
        → AreLosslessSteps p.codes (cond b (without_free p.codes items) (i ∷ without_free p.codes items)) h.groups h.units
        → Goes p i items n (role_in p.codes i items) plans l
    by true e run planned =
        let none = free_none p.codes i.bus i.word e in
        let are = h.plans_are ∙ plain_past p.codes n h.units i items (other_wants p.codes i.bus i.word None none tt) in
        rw none (goes_free p i items n h.units plans l h.groups h.profile are run.0 run.1 planned)
    by false e run planned =
        let thin = without_free p.codes items in
        rw (role_thin p.codes i items)
        (goes_word p i items n (role_in p.codes i thin) h.units plans l h.groups h.profile planned.0
        (planned_word p.codes n i items thin h.units plans h.plans_are planned.1) run planned.2)

-- ---- the plan of link data units

block_role : (x : Option Form) (more : List (Option Form)) → IsOfBlock x → role_of x more ≡ role.OfBlock
block_role (Some (Sot g f l)) more h = refl
block_role (Some (Part s)) more h = refl
block_role (Some (Eot f k)) more h = refl
block_role (Some (Rts n)) more h = absurd h
block_role (Some (Cts n)) more h = absurd h
block_role (Some (Ack f l)) more h = absurd h
block_role (Some (Nak b)) more h = absurd h
block_role None more h = absurd h

planned_block : (c : Codes) (ws : List ℕ) (xs : List Seen) (gs : List (List Step)) (us : List LduValue)
    → AreOfBlock c ws → AreLosslessSteps c xs gs us → AreLosslessSteps c (map on_a ws ++ xs) (map sends_word ws ++ gs) us
planned_block c [] xs gs us h more = more
planned_block c (w ∷ ws) xs gs us h more =
    rw (block_role (form_of c bus.A w) (forms_of c (map on_a ws ++ xs)) h.0) (refl, tt, planned_block c ws xs gs us h.1 more)

planned_apart : (c : Codes) (ws bs cs : List Seen) (ds es fs : List (List Step)) (us : List LduValue)
    → AreLosslessSteps c (ws ++ (bs ++ cs)) (ds ++ (es ++ fs)) us → AreLosslessSteps c ((ws ++ bs) ++ cs) ((ds ++ es) ++ fs) us
planned_apart c ws bs cs ds es fs us h =
    subst (λ (xs : List Seen). AreLosslessSteps c xs ((ds ++ es) ++ fs) us) (sym (append_assoc ws bs cs))
    (subst (λ (gs : List (List Step)). AreLosslessSteps c (ws ++ (bs ++ cs)) gs us) (sym (append_assoc ds es fs)) h)

pub planned_clean : (p : Contents) → IsProfile p → (us : List LduValue) (place : UnitNumber) → place.file ≤ 255 → AllFit p place us
    → AreLosslessSteps p.codes (clean_blocks p.codes place us) (clean_steps p.codes place us) us
planned_clean p is [] place f h = tt
planned_clean p is (u ∷ us) place f h =
    let c = p.codes in
    let k = unit_has_forms p is place u f h.1 h.0 in
    let block = block_of c u place.file place.ldu in
    let last = word_number c (Ack place.file place.ldu) in
    let xs = clean_blocks c (number_after c place u) us in
    let gs = clean_steps c (number_after c place u) us in
    let more : AreLosslessSteps c xs gs us = planned_clean p is us (number_after c place u) (next_byte c place _ f) h.2 in
    let acked : AreLosslessSteps c (on_b last ∷ xs) (replies last ∷ gs) us =
    planned_cons c (on_b last) xs (replies last) gs us (role.Acknowledged true)
    (rw k.settled (ap (λ (b : Bool). role.Acknowledged (not b)) (next_start_other p is place u us f h.1 h.2))) refl refl more in
    let words = planned_block c block (on_b last ∷ xs) (replies last ∷ gs) us (block_has_forms p place u k) acked in
    let words : AreLosslessSteps c ((map on_a block ++ on_b last ∷ []) ++ xs) ((map sends_word block ++ replies last ∷ []) ++ gs) us =
    planned_apart c (map on_a block) (on_b last ∷ []) xs (map sends_word block) (replies last ∷ []) gs us words in
    let follows = (map on_a block ++ on_b last ∷ []) ++ xs in
    let more_steps = (map sends_word block ++ replies last ∷ []) ++ gs in
    let cts = word_number c (Cts (count_of u)) in
    let cleared =
    planned_cons c (on_b cts) follows (replies cts) more_steps us (role.Clear true) (rw k.clear (rw k.start refl)) refl refl words in
    let begun : attempt_start (forms_of c (on_b cts ∷ follows)) ≡ Some (start_numbers place) =
    ap (λ (ys : List Seen). attempt_start (forms_of c (on_b cts ∷ ys))) (append_assoc (map on_a block) (on_b last ∷ []) xs)
    ∙ attempt_start_is p place u (on_b last ∷ xs) k in
    planned_cons c (on_a (word_number c (Rts (count_of u)))) (on_b cts ∷ follows) (requests c u) (replies cts ∷ more_steps) (u ∷ us)
    (role.Request (count_of u) (Some (start_numbers place)))
    (rw k.request (ap (λ (o : Option StartNumbers). role.Request (count_of u) o) begun)) refl refl cleared

-- ---- the whole recording

-- a recording without loss is on plan at its start
pub plan_starts : (p : Contents) → IsProfile p → (items : List Seen) (first : ℕ) (us : List LduValue) (l : LinkValue) → first ≤ 255
    → HaveCrossed (decoded p items) first us → l ≡ record { profile = p; state = start p first }
    → OnPlan p items 0 (plain_plans p.codes 0 us items) l
plan_starts p is items first us l f h same =
    let place = first_number p.codes first in
    rw same (record {
      profile = refl;
      units = us;
      plans_are = refl;
      groups = clean_steps p.codes place us;
      run = (clean_is_run p first us items is f h.fit h.words).run;
      planned =
          subst (λ (xs : List Seen). AreLosslessSteps p.codes xs (clean_steps p.codes place us) us) (sym h.words)
          (planned_clean p is us place f h.fit);
    })

-- the role of an entry
pub role_at : (c : Codes) (items : List Seen) (n : ℕ) (i : Seen) (r : Role)
    → n < length items → get_or (roles (forms_of c items)) n r ≡ role_in c (get_or items n i) (drop (suc n) items)
role_at c [] n i r l = absurd (omega arith)
role_at c (x ∷ items) zero i r l = refl
role_at c (x ∷ items) (suc n) i r l = role_at c items n i r (omega arith)

-- the next entry of a recording on plan
pub plan_next : (p : Contents) (items : List Seen) (n : ℕ) (i : Seen) (r : Role) (rs : List Role) (plans : List Plan) (l : LinkValue)
    → n < length items → i ≡ get_or items n i → rs ≡ roles (forms_of p.codes items) → r ≡ get_or rs n r → OnPlan p (drop n items) n plans l
    → Goes p i (drop (n + 1) items) n r plans l
plan_next p items n i r rs plans l inside is are its h =
    let one : n + 1 ≡ suc n = omega arith in
    let here : r ≡ role_in p.codes i (drop (suc n) items) = its ∙ ap (λ (q : List Role). get_or q n r) are
    ∙ role_at p.codes items n i r inside ∙ ap (λ (x : Seen). role_in p.codes x (drop (suc n) items)) (sym is) in
    let list : drop n items ≡ i ∷ drop (suc n) items = drop-cons items n i inside ∙ ap (λ (x : Seen). x ∷ drop (suc n) items) (sym is) in
    subst (λ (k : ℕ). Goes p i (drop k items) n r plans l) (sym one)
    (subst (λ q. Goes p i (drop (suc n) items) n q plans l) (sym here)
    (goes_on p i (drop (suc n) items) n plans l (subst (λ (xs : List Seen). OnPlan p xs n plans l) list h)))

pub goes_run : (p : Contents) (i : Seen) (items : List Seen) (n : ℕ) (r : Role) (plan : Option Plan) (plans : List Plan) (l : LinkValue)
    → l.profile ≡ p → plan ≡ plan_for r n plans → Goes p i items n r plans l → IsRun l.profile (lossless_steps r i plan) l.state
goes_run p i items n r plan plans l e o h = rw e (rw o h.run)

pub goes_lossless : (p : Contents) (i : Seen) (items : List Seen) (n : ℕ) (r : Role) (plan : Option Plan) (plans : List Plan)
    (l : LinkValue) → plan ≡ plan_for r n plans → Goes p i items n r plans l → IsLossless r plan
goes_lossless p i items n r plan plans l o h = rw o h.lossless

-- the plan goes on
pub plan_kept : (p : Contents) (i : Seen) (items : List Seen) (n : ℕ) (r : Role) (plan : Option Plan) (plans left : List Plan)
    (l m : LinkValue)
    → Goes p i items n r plans l → plan ≡ plan_for r n plans → left ≡ plans_left r n plans → m ≡ link_after (lossless_steps r i plan) l
    → OnPlan p items (n + 1) left m
plan_kept p i items n r plan plans left l m h o el em = rw el (rw em (rw o h.more))

-- the entries with the next one
pub entries_next : (es : List Entry) (n : ℕ) (e : Entry)
    → n < length es → e ≡ get_or es n e → take n (items_of es) ++ seen_of e ∷ [] ≡ take (n + 1) (items_of es)
entries_next es n e l is =
    let long : length (items_of es) ≡ length es = length-items_of es in
    let one : n + 1 ≡ suc n = omega arith in
    rw one
    (sym (take-suc (items_of es) n (seen_of e) (omega (arith, long))
    ∙ ap (λ (i : Seen). take n (items_of es) ++ i ∷ []) (get_item es n e ∙ ap seen_of (sym is))))

-- the next entry
pub entry_next : (p : Contents) (es : List Entry) (n : ℕ) (e : Entry) (i : Seen) (r : Role) (rs : List Role) (plans : List Plan)
    (l : LinkValue)
    → n < length es → e ≡ get_or es n e → i ≡ seen_of e → rs ≡ roles (forms_of p.codes (items_of es)) → r ≡ get_or rs n r
    → OnPlan p (drop n (items_of es)) n plans l → Goes p i (drop (n + 1) (items_of es)) n r plans l
entry_next p es n e i r rs plans l inside is same are its h =
    plan_next p (items_of es) n i r rs plans l (omega (arith, length-items_of es))
    (same ∙ ap seen_of is ∙ sym (get_item es n e) ∙ ap (λ (x : Seen). get_or (items_of es) n x) (sym same)) are its h
