-- The words of a block that the source has still to send, lost one after the other.
use Rattle.std.proofs.Common.{◌≡◌, ◌<◌, ◌+◌, ◌-◌, ◌==◌, ℕ, zero, suc, Bool, true, false, List, [], ◌∷◌, Option, Some, None, IsSome, nat_lt, slice_get, if◌then◌else◌, refl, sym, ap, ◌∙◌, subst, arith}
use Rattle.std.proofs.lemmas.Bool.{ne_eqb}
use Rattle.std.proofs.lemmas.Bool.Decides.{nat_tests}
use Rattle.std.proofs.lemmas.Option.{slice_get-get_or}
use Rattle.a429_profile.specs.Profile.{Contents}
use Rattle.a429_ldu.specs.Ldu.{LduValue, block_of, count_of}
use Rattle.a429_link.specs.declared.state.SourceState.{SourceState}
use Rattle.a429_link.specs.declared.state.SourceState.TheVariants.{Idle, Awaiting, Sending, Waiting}
use Rattle.a429_link.specs.declared.step.Step.{Step}
use Rattle.a429_link.specs.declared.step.Step.TheVariants.{SentLost}
use Rattle.a429_link.specs.Losses.{left_of, words_left, losses, phase_past, StaysBounded}
use Rattle.a429_link.specs.Step.{Can, after}
use Rattle.a429_link.specs.State.{State}
use Rattle.a429_link.specs.Run.{IsRun, end_of}
use Rattle.a429_link.specs.Link.{IsKept}
use Rattle.a429_link.proofs.LinkKept.{kept_bounded, kept_step}
use Rattle.a429_link.proofs.SourceBlock.{block_length}

-- ---- one word

-- the state with the source in this phase
abbrev pub in_phase : SourceState → State → State
in_phase q s = record s { source = record (s.source) { phase = q } }

-- the source sends word k of a block of so many words
pub record SendsWord (s : State) (u : LduValue) (k : ℕ) : Type 0 where
  pub current : s.source.current ≡ Some u
  pub sending : s.source.phase ≡ Sending k
  pub inside : k < count_of u

some_there : {X : Type 0} (o : Option X) (x : X) → o ≡ Some x → IsSome o
some_there o x e = rw e refl

pub can_lose : (p : Contents) (s : State) (u : LduValue) (k : ℕ) → SendsWord s u k → Can p SentLost s
can_lose p s u k h =
    let block = block_of p.codes u s.source.number.file s.source.number.ldu in
    let word = slice_get-get_or block k 0 (omega (arith, h.inside, block_length p.codes u s.source.number)) in
    rw (h.current, h.sending) (some_there (slice_get block k) _ word)

-- a word that is not the last: the next one is sent then
pub lost_inside : (p : Contents) (s : State) (u : LduValue) (k : ℕ)
    → SendsWord s u k → suc k < count_of u → after p SentLost s ≡ in_phase (Sending (suc k)) s
lost_inside p s u k h more =
    let other : (suc k == count_of u) ≡ false = ne_eqb (suc k) (count_of u) (λ e. omega (arith, more, e)) in
    rw (h.current, h.sending, other) refl

-- the last word: the source waits then
pub lost_last : (p : Contents) (s : State) (u : LduValue) (k : ℕ)
    → SendsWord s u k → suc k ≡ count_of u → after p SentLost s ≡ in_phase Waiting s
lost_last p s u k h last =
    let same : (suc k == count_of u) ≡ true = grind (arith, nat_tests) in
    rw (h.current, h.sending, same) refl

pub sends_next : (s : State) (u : LduValue) (k : ℕ)
    → SendsWord s u k → suc k < count_of u → SendsWord (in_phase (Sending (suc k)) s) u (suc k)
sends_next s u k h more = record { current = h.current; sending = refl; inside = more }

-- ---- all words

-- the words from word k on
pub all_lost : (p : Contents) (u : LduValue) (n k : ℕ) (s : State)
    → SendsWord s u k → k + suc n ≡ count_of u → IsRun p (losses (suc n)) s × (end_of p (losses (suc n)) s ≡ in_phase Waiting s)
all_lost p u zero k s h whole = ((can_lose p s u k h, tt), lost_last p s u k h (omega (arith, whole)))
all_lost p u (suc n) k s h whole =
    let more : suc k < count_of u = omega (arith, whole) in
    let next = lost_inside p s u k h more in
    let rest = all_lost p u n (suc k) (in_phase (Sending (suc k)) s) (sends_next s u k h more) (omega (arith, whole)) in (
      (can_lose p s u k h, subst (IsRun p (losses (suc n))) (sym next) rest.0),
      ap (end_of p (losses (suc n))) next ∙ rest.1,
    )

-- what is said of a loss of the rest
abbrev Loses : Contents → State → ℕ → SourceState → Type 0
Loses p s n q = IsRun p (losses n) s × (end_of p (losses n) s ≡ in_phase q s)

none_lost : (p : Contents) (s : State) (q : SourceState) → s.source.phase ≡ q → Loses p s 0 q
none_lost p s q e = (tt, rw (sym e) refl)

pub rest_lost : (p : Contents) (s : State) → Loses p s (words_left s.source) (phase_past s.source.current s.source.phase)
rest_lost p s = by s.source.current s.source.phase refl refl
  where
    in_block : (u : LduValue) (k : ℕ) (b : Bool) → nat_lt k (count_of u) ≡ b → s.source.current ≡ Some u → s.source.phase ≡ Sending k
        → Loses p s (count_of u - k) (if b then Waiting else Sending k)
    in_block u k true less e f =
        let inside : k < count_of u = grind (arith, nat_tests) in
        let m = count_of u - k - 1 in
        let some : suc m ≡ count_of u - k = omega (arith, inside) in
        subst (λ (n : ℕ). Loses p s n Waiting) some
        (all_lost p u m k s (record { current = e; sending = f; inside = inside }) (omega (arith, inside)))
    in_block u k false less e f =
        let none : count_of u - k ≡ 0 = grind (arith, nat_tests) in
        subst (λ (n : ℕ). Loses p s n (Sending k)) (sym none) (none_lost p s (Sending k) f)

    by : (o : Option LduValue) (q : SourceState) → s.source.current ≡ o → s.source.phase ≡ q → Loses p s (left_of o q) (phase_past o q)
    by (Some u) (Sending k) e f = in_block u k (nat_lt k (count_of u)) refl e f
    by (Some u) Idle e f = none_lost p s Idle f
    by (Some u) Awaiting e f = none_lost p s Awaiting f
    by (Some u) Waiting e f = none_lost p s Waiting f
    by None q e f = none_lost p s q f

-- a source that has words of a block left sends one of them
pub sends_word : (s : State) (k n : ℕ)
    → s.source.phase ≡ Sending k → n ≡ words_left s.source → 0 < n → (u : LduValue) × SendsWord s u k × (k + n ≡ count_of u)
sends_word s k n phase count some = by s.source.current refl (count ∙ ap (left_of s.source.current) phase)
  where
    by : (o : Option LduValue) → s.source.current ≡ o → n ≡ left_of o (Sending k) → (u : LduValue) × SendsWord s u k × (k + n ≡ count_of u)
    by None e left = absurd (omega (arith, left, some))
    by (Some u) e left = (u, record { current = e; sending = phase; inside = omega (arith, left, some) }, omega (arith, left, some))

-- ---- a link

pub kept_run : (p : Contents) (steps : List Step) (s : State)
    → IsKept p s → IsRun p steps s → IsKept p (end_of p steps s) × StaysBounded p steps s
kept_run p [] s kept run = (kept, kept_bounded p s kept)
kept_run p (a ∷ steps) s kept run =
    let rest = kept_run p steps (after p a s) (kept_step p a s kept run.0) run.1 in
    (rest.0, (kept_bounded p s kept, rest.1))
