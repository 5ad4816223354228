-- Times that never fall, with one more entry.
use Rattle.std.proofs.Common.{◌≡◌, ◌≤◌, ℕ, List, [], ◌∷◌, ◌++◌, refl}
use Rattle.a429_record.specs.declared.entry.Entry.{Entry}
use Rattle.a429_record.specs.Recording.{NeverFalls}

-- the time of the last entry, or t where there is none
abbrev pub last_time : ℕ → List Entry → ℕ
last_time t [] = t
last_time t (e ∷ es) = last_time e.time es

pub NeverFalls-push : (t : ℕ) (es : List Entry) (e : Entry) → NeverFalls t es → last_time t es ≤ e.time → NeverFalls t (es ++ (e ∷ []))
NeverFalls-push t [] e up last = (last, tt)
NeverFalls-push t (x ∷ es) e up last = (up.0, NeverFalls-push x.time es e up.1 last)

pub last_time-push : (t : ℕ) (es : List Entry) (e : Entry) → last_time t (es ++ (e ∷ [])) ≡ e.time
last_time-push t [] e = refl
last_time-push t (x ∷ es) e = last_time-push x.time es e
