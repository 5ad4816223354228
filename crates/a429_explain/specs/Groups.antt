-- Where a group of attempts ends, and what it says of its link data unit (profile). It ends with an acknowledgement after which
-- that unit does not start again, and before an attempt whose start word has other numbers than those before it.
use Rattle.std.specs.Prelude.{ℕ, suc, ◌+◌, ◌-◌, ◌==◌, Bool, true, false, not, ◌&&◌, if◌then◌else◌, Option, Some, None, List, [], ◌∷◌, drop, slice_get, slice_range}
use Rattle.std.specs.Option.{option_or}
use Rattle.a429_link.specs.declared.seen.Seen.{Seen}
use Rattle.a429_explain.specs.declared.attempts.Role.{Role}
use Rattle.a429_explain.specs.declared.attempts.Role.TheVariants.{Request, Acknowledged}
use Rattle.a429_explain.specs.declared.attempts.StartNumbers.{StartNumbers}
use Rattle.a429_explain.specs.declared.groups.Group.{Group}
use Rattle.a429_explain.specs.declared.groups.Grouping.{Grouping}
use Rattle.a429_explain.specs.declared.groups.Grouping.TheVariants.{Between, Within}

-- ---- its end

-- two start words were recorded, and they have other numbers
abbrev pub are_other : Option StartNumbers → Option StartNumbers → Bool
are_other (Some m) (Some n) = not ((m.file == n.file) && (m.ldu == n.ldu))
are_other _ _ = false

-- a word belongs to the group that those before it have begun
abbrev pub stays_within : Grouping → Role → Bool
stays_within Between r = false
stays_within (Within first) (Request n start) = not (are_other first start)
stays_within (Within first) _ = true

-- the numbers of the group's start words, where one was recorded
abbrev pub start_in : Grouping → Option StartNumbers
start_in Between = None
start_in (Within start) = start

-- whether a group has begun after a word
abbrev pub with_role : Grouping → Role → Grouping
with_role g (Request n start) = Within (option_or start (start_in g))
with_role g (Acknowledged ends) = if ends then Between else g
with_role g _ = g

-- how many of these words belong to a group that others have begun
abbrev pub words_in : Grouping → List Role → ℕ
words_in g [] = 0
words_in g (r ∷ more) = if stays_within g r then suc (words_in (with_role g r) more) else 0

-- how many words a group has that begins with these
abbrev pub group_length : List Role → ℕ
group_length [] = 0
group_length (r ∷ more) = suc (words_in (with_role Between r) more)

-- the group that begins here
abbrev pub group_from : List Role → ℕ → Group
group_from rs from = record { from = from; to = from + group_length (drop from rs) }

-- its words
abbrev pub words_of_group : List Seen → Group → List Seen
words_of_group items g = slice_range items g.from g.to

-- ---- its link data unit

-- how many words the request asks for with which an attempt begins here
abbrev pub asked : Role → Option ℕ
asked (Request n start) = Some n
asked _ = None

-- the numbers of the start word of an attempt that begins here
abbrev pub start_of : Role → Option StartNumbers
start_of (Request n start) = start
start_of _ = None

-- those of the first of these words
abbrev pub first_started : List Role → Option StartNumbers
first_started [] = None
first_started (r ∷ more) = option_or (start_of r) (first_started more)

-- that of the group's first start word, where one was recorded
abbrev pub group_start : List Role → Group → Option StartNumbers
group_start rs g = first_started (slice_range rs g.from g.to)

-- the word is the acknowledgement that ends its group
abbrev pub ends_its_group : Option Role → Bool
ends_its_group (Some (Acknowledged ends)) = ends
ends_its_group _ = false

-- the group's last word is
abbrev pub is_settled : List Role → Group → Bool
is_settled rs g = ends_its_group (slice_get rs (g.to - 1))
