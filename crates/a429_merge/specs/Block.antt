-- The link data unit of a group, by what its attempts recorded (profile).
use Rattle.std.specs.Prelude.{◌≡◌, ℕ, true, ◌-◌, List, Option, Some, None, IfSome, IfNone, if◌then◌else◌}
use Rattle.a429_profile.specs.Profile.{Contents}
use Rattle.a429_ldu.specs.Carried.{CarryBytes}
use Rattle.a429_ldu.specs.CheckWord.{check_of}
use Rattle.a429_ldu.specs.Ldu.{LduValue, IsLdu, bytes_of, count_of}
use Rattle.a429_merge.specs.declared.pieces.EndWord.{EndWord}
use Rattle.a429_merge.specs.declared.pieces.GroupPieces.{GroupPieces}
use Rattle.a429_merge.specs.Order.{lists_of, HasEach}
use Rattle.a429_merge.specs.Fill.{CanBeCompleted}

-- the check word that the data words must have: that of the end word, where one was recorded and check words are compared
abbrev pub check_wanted : Contents → Option EndWord → Option ℕ
check_wanted p None = None
check_wanted p (Some end) = if p.check.compare then Some end.check else None

-- the bytes of the data words have this check word, where check words are compared
abbrev pub HaveCheckWord : Contents → List ℕ → ℕ → Type 0
HaveCheckWord p words check = (bytes : List ℕ) → CarryBytes p.codes words bytes → p.check.compare ≡ true → check ≡ check_of p.check bytes

-- the link data unit has what was recorded: as many words as were asked for, the numbers of the start word and of the end
-- word, and the data words of each attempt in their order. Where no start word was recorded its general format identifier is 0;
-- where no end word was, its flags are 0, and its check word is that of its bytes
pub record IsUnitOf (p : Contents) (pieces : GroupPieces) (u : LduValue) : Type 0 where
  pub unit : IsLdu p u
  pub count : count_of u ≡ pieces.count
  pub gfi : IfSome pieces.gfi (λ n. u.gfi ≡ n)
  pub no_gfi : IfNone pieces.gfi (u.gfi ≡ 0)
  pub end : IfSome pieces.end (λ e. (u.flags ≡ e.flags) × (u.check ≡ e.check))
  pub no_end : IfNone pieces.end ((u.flags ≡ 0) × (u.check ≡ check_of p.check (bytes_of p.codes u)))
  pub each : HasEach u.words (lists_of pieces.attempts.items)

-- these data words of an attempt have those of each, and are a whole unit or can be filled up to one
abbrev pub GivesUnit : Contents → GroupPieces → List ℕ → Type 0
GivesUnit p pieces words = HasEach words (lists_of pieces.attempts.items) × CanBeCompleted p (pieces.count - 2) (check_wanted p pieces.end) words

-- the attempts of a group may have been attempts to send this link data unit: it is one of the profile, has as many words as were
-- asked for, the numbers of the start word and of the end word, and the data words of each attempt in their order
pub record MayBeUnitOf (p : Contents) (pieces : GroupPieces) (u : LduValue) : Type 0 where
  pub unit : IsLdu p u
  pub count : count_of u ≡ pieces.count
  pub gfi : IfSome pieces.gfi (λ n. u.gfi ≡ n)
  pub end : IfSome pieces.end (λ e. (u.flags ≡ e.flags) × (u.check ≡ e.check))
  pub each : HasEach u.words (lists_of pieces.attempts.items)
