-- How many entries have a key (profile).
use Rattle.std.specs.Prelude.{ℕ, ◌≡◌, zero, suc, List, cond, count_by, Option, Some, None, unwrap_or}
use Rattle.std.specs.declared.cmp.Ordering.{Ordering}
use Rattle.std.specs.Ordering.{is_eq}
use Rattle.std.specs.BTreeMap.{BTreeMap, get}
use Rattle.a429_record.specs.declared.entry.Entry.{Entry}
use Rattle.a429_import.specs.declared.sort_key.SortKey.{SortKey}
use Rattle.a429_import.specs.contracts.sort_key.SortKeyOrd.TheImpl as sort_key_ord
use Rattle.a429_import.specs.SortKey.{key_of}

-- the order of the keys
abbrev pub by_key : SortKey → SortKey → Ordering
by_key = (sort_key_ord.ghosts).cmp

-- how many entries have this key
abbrev pub times_in : List Entry → SortKey → ℕ
times_in es k = count_by (λ e. is_eq (by_key (key_of e) k)) es

-- a number, where it is not 0
abbrev pub some_times : ℕ → Option ℕ
some_times zero = None
some_times (suc n) = Some (suc n)

-- a map has at each key how many entries have it, and nothing where none has
abbrev pub AreCounted : BTreeMap SortKey ℕ → List Entry → Type 0
AreCounted m es = (k : SortKey) → get by_key m k ≡ some_times (times_in es k)

-- how many are counted at a key
abbrev pub times_at : BTreeMap SortKey ℕ → SortKey → ℕ
times_at m k = unwrap_or (get by_key m k) 0

-- counts that are those before, but so many at this key
abbrev pub IsCountedAs : SortKey → ℕ → BTreeMap SortKey ℕ → BTreeMap SortKey ℕ → Type 0
IsCountedAs key times old new = (k : SortKey) → get by_key new k ≡ cond (is_eq (by_key key k)) (some_times times) (get by_key old k)
