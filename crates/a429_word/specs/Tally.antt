-- What a clause reads of a `Tally`, and what a write that may stop early does (profile).
use Rattle.std.specs.Prelude.{◌≡◌, ◌<◌, ◌≤◌, ◌⊎◌, ℕ, List, [], length, take, Option, Some, None, Bool, true, ⊤}
use Rattle.std.specs.Io.KnownBytes.{Appends}
use Rattle.a429_word.specs.declared.tally.Tally.{Tally}

-- the reader or writer underneath
abbrev pub inner_of : {T : Type 0} → Tally T → T
inner_of t = t.inner

-- how many bytes reads may still return
abbrev pub left_of : {T : Type 0} → Tally T → ℕ
left_of t = t.left

-- whether it has failed
abbrev pub has_failed : {T : Type 0} → Tally T → Bool
has_failed t = t.is_failed

-- known bytes grow by some prefix of bs
abbrev pub AppendsPrefix : Option (List ℕ) → Option (List ℕ) → List ℕ → Type 0
AppendsPrefix old new bs = (n : ℕ) × (n ≤ length bs) × Appends old new (take n bs)

-- known bytes were fewer than n, and none is left
abbrev pub EndsBefore : Option (List ℕ) → Option (List ℕ) → ℕ → Type 0
EndsBefore None new n = ⊤
EndsBefore (Some xs) None n = ⊥
EndsBefore (Some xs) (Some ys) n = (length xs < n) × (ys ≡ [])

-- a writer whose bytes are known has gained these
abbrev pub Puts : {W : Type 0} → (W → Option (List ℕ)) → Tally W → Tally W → List ℕ → Type 0
Puts contents old new text = Appends (contents (inner_of old)) (contents (inner_of new)) text

-- some prefix of these
abbrev pub PutsFront : {W : Type 0} → (W → Option (List ℕ)) → Tally W → Tally W → List ℕ → Type 0
PutsFront contents old new text = AppendsPrefix (contents (inner_of old)) (contents (inner_of new)) text

-- the bytes that a reader will still return, where they are known
abbrev pub unread : {R : Type 0} → (R → Option (List ℕ)) → Tally R → Option (List ℕ)
unread remaining rec = remaining (inner_of rec)

-- a read of n bytes falls short: the reader has failed, or it had fewer and has none left
abbrev pub FallsShort : {R : Type 0} → (R → Option (List ℕ)) → Tally R → Tally R → ℕ → Type 0
FallsShort remaining old new n = (has_failed new ≡ true) ⊎ EndsBefore (unread remaining old) (unread remaining new) n
