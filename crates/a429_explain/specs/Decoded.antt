-- A recording's words under the profile of its bench, and what each of them is (profile).
use Rattle.std.specs.Prelude.{◌≡◌, ℕ, List, map, Option, Some, None, slice_get}
use Rattle.a429_profile.specs.declared.codes.Codes.{Codes}
use Rattle.a429_profile.specs.Profile.{Contents}
use Rattle.a429_ldu.specs.declared.forms.Form.{Form}
use Rattle.a429_ldu.specs.declared.sight.Sight.{Sight}
use Rattle.a429_ldu.specs.declared.sight.Sight.TheVariants as sight
use Rattle.a429_ldu.specs.Form.{form_of}
use Rattle.a429_ldu.specs.Sight.{sight_of}
use Rattle.a429_link.specs.declared.seen.Seen.{Seen}
use Rattle.a429_explain.specs.declared.decoded.DecodedWord.{DecodedWord}

pub record HeardValue : Type 0 where
  pub profile : Contents
  pub items : List Seen

-- what the word at a place is; past the last word it is free
abbrev pub sight_at : Codes → Option Seen → Sight
sight_at c None = sight.Free
sight_at c (Some i) = sight_of c i.bus i.word

-- the word at this place is this one
pub record IsHeardAt (c : Codes) (items : List Seen) (at : ℕ) (h : DecodedWord) : Type 0 where
  pub item : Seen
  pub is : slice_get items at ≡ Some item
  pub form_is : form_of c item.bus item.word ≡ h.form
  pub word_is : item.word ≡ h.word

-- the forms of all words; a free word has none
abbrev pub forms_of : Codes → List Seen → List (Option Form)
forms_of c items = map (λ i. form_of c i.bus i.word) items
