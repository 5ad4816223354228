-- Which link data unit a group carries (profile). A whole attempt has a start word, as many data words as its request
-- asks for, that carry bytes, and an end word whose check word agrees.
use Rattle.std.specs.Prelude.{◌≡◌, ◌<◌, ◌≤◌, ℕ, ◌+◌, ◌==◌, Bool, true, false, not, ◌&&◌, if◌then◌else◌, Option, Some, None, is_some, option_and_then, List, [], ◌∷◌, ◌++◌, length, slice_get}
use Rattle.std.specs.Option.{option_or}
use Rattle.a429_ldu.specs.CheckWord.{agrees}
use Rattle.a429_profile.specs.declared.codes.Codes.{Codes}
use Rattle.a429_profile.specs.Profile.{Contents}
use Rattle.a429_ldu.specs.declared.forms.Form.{Form}
use Rattle.a429_ldu.specs.declared.forms.Form.TheVariants.{Rts, Sot, Part, Eot}
use Rattle.a429_ldu.specs.declared.sight.Sight.{Sight}
use Rattle.a429_ldu.specs.declared.sight.Sight.TheVariants as sight
use Rattle.a429_ldu.specs.Form.{form_of}
use Rattle.a429_ldu.specs.Sight.{sight_of}
use Rattle.a429_ldu.specs.Carried.{bytes_carried, bytes_in}
use Rattle.a429_ldu.specs.Ldu.{LduValue}
use Rattle.a429_link.specs.declared.seen.Seen.{Seen}
use Rattle.a429_explain.specs.declared.groups.Request.{Request}
use Rattle.a429_explain.specs.declared.attempts.Role.{Role}
use Rattle.a429_explain.specs.declared.attempts.Role.TheVariants as role
use Rattle.a429_explain.specs.declared.whole.Ends.{Ends}
use Rattle.a429_explain.specs.Groups.{words_of_group}
use Rattle.a429_explain.specs.Decoded.{HeardValue, sight_at}

-- what an attempt has recorded: the general format identifier of its start word, and its data words
pub record Recorded : Type 0 where
  pub start : Option ℕ
  pub words : List ℕ

abbrev pub nothing_yet : Recorded
nothing_yet = record { start = None; words = [] }

-- with one more word of this form; a request begins anew
abbrev pub gathered_with : Option Form → ℕ → Recorded → Recorded
gathered_with (Some (Rts n)) word r = nothing_yet
gathered_with (Some (Sot gfi file ldu)) word r = record { start = Some gfi; words = r.words }
gathered_with (Some (Part semis)) word r = record { start = r.start; words = r.words ++ word ∷ [] }
gathered_with _ word r = r

-- a word of this role is a request or a word of a block; an attempt passes over the others
abbrev pub is_of_attempt : Role → Bool
is_of_attempt (role.Request n start) = true
is_of_attempt role.OfBlock = true
is_of_attempt _ = false

-- data words and a check word are those of a unit for which such a request asks
abbrev pub is_whole : Contents → ℕ → List ℕ → ℕ → Bool
is_whole p count words check = (length words + 2 == count) && (is_some (bytes_carried p.codes words) && agrees p.check (bytes_in p.codes words) check)

-- what the words around the data words say, and the link data unit that they make
abbrev pub ends_with : Option ℕ → ℕ → ℕ → Ends
ends_with start flags check = record { start = start; flags = flags; check = check }

abbrev pub unit_made : Contents → ℕ → Ends → List ℕ → Option LduValue
unit_made p count ends words =
    option_and_then (λ gfi. if is_whole p count words ends.check then Some (record { gfi = gfi; flags = ends.flags; check = ends.check; words = words }) else None) ends.start

-- the same of a word of any form
abbrev pub ended_by : Contents → ℕ → Option Form → Recorded → Option LduValue
ended_by p count (Some (Eot flags check)) r = unit_made p count (ends_with r.start flags check) r.words
ended_by p count _ r = None

-- that of the first whole attempt of these words, of which so much was recorded before them
abbrev pub first_whole : Contents → ℕ → List Seen → Recorded → Option LduValue
first_whole p count [] r = None
first_whole p count (i ∷ items) r = option_or (ended_by p count (form_of p.codes i.bus i.word) r) (first_whole p count items (gathered_with (form_of p.codes i.bus i.word) i.word r))

-- how many words a request asks for
abbrev pub wanted : Sight → Option ℕ
wanted (sight.Form (Rts n)) = Some n
wanted _ = None

abbrev pub is_other : ℕ → Option ℕ → Bool
is_other count None = false
is_other count (Some n) = not (n == count)

-- the place of the first request that asks for another number of words, the places counted from k
abbrev pub other_request : Codes → ℕ → List Seen → ℕ → Option ℕ
other_request c count [] k = None
other_request c count (i ∷ items) k = if is_other count (wanted (sight_of c i.bus i.word)) then Some k else other_request c count items (k + 1)

-- the group is one of the recording, and begins with a request that asks for so many words
pub record IsRequestOf (h : HeardValue) (r : Request) : Type 0 where
  pub some : r.group.from < r.group.to
  pub inside : r.group.to ≤ length h.items
  pub wants : wanted (sight_at h.profile.codes (slice_get h.items r.group.from)) ≡ Some r.count

-- its words
abbrev pub words_for : HeardValue → Request → List Seen
words_for h r = words_of_group h.items r.group
