-- The first fault of keys, part by part.
use Rattle.std.proofs.Common.{◌≡◌, List, [], ◌∷◌, ◌++◌, Option, Some, None, refl, ap, sym, ◌∙◌}
use Rattle.toml.specs.Data.{Members}
use Rattle.a429_profile.specs.declared.key.SectionKey.{SectionKey}
use Rattle.a429_profile.specs.declared.fault.ProfileFault.{ProfileFault}
use Rattle.a429_profile.specs.Fault.{first_or}
use Rattle.a429_profile.specs.Key.{section_fault, first_section_fault, number_keys, check_keys}
use Rattle.a429_profile.specs.Profile.{section_keys, fault_of}

first_or-assoc : (a b c : Option ProfileFault) → first_or (first_or a b) c ≡ first_or a (first_or b c)
first_or-assoc (Some f) b c = refl
first_or-assoc None b c = refl

first_section_fault-append : (doc : Members) (ks ls : List SectionKey)
    → first_section_fault doc (ks ++ ls) ≡ first_or (first_section_fault doc ks) (first_section_fault doc ls)
first_section_fault-append doc [] ls = refl
first_section_fault-append doc (k ∷ ks) ls =
    ap (first_or (section_fault doc k)) (first_section_fault-append doc ks ls)
    ∙ sym (first_or-assoc (section_fault doc k) (first_section_fault doc ks) (first_section_fault doc ls))

-- keys without a fault leave it to those after them
pub after_none : (doc : Members) (ks ls : List SectionKey)
    → first_section_fault doc ks ≡ None → first_section_fault doc (ks ++ ls) ≡ first_section_fault doc ls
after_none doc ks ls e = first_section_fault-append doc ks ls ∙ ap (λ f. first_or f (first_section_fault doc ls)) e

-- keys with a fault give it
pub at_some : (doc : Members) (ks ls : List SectionKey) (f : ProfileFault)
    → first_section_fault doc ks ≡ Some f → first_section_fault doc (ks ++ ls) ≡ Some f
at_some doc ks ls f e = first_section_fault-append doc ks ls ∙ ap (λ f. first_or f (first_section_fault doc ls)) e

-- ---- the first fault of a document, part by part

or_some : (a b : Option ProfileFault) (f : ProfileFault) → a ≡ Some f → first_or a b ≡ Some f
or_some a b f e = ap (λ x. first_or x b) e

pub fault_of-codes : (doc : Members) (f : ProfileFault) → first_section_fault doc number_keys ≡ Some f → fault_of doc ≡ Some f
fault_of-codes doc f e = or_some (first_section_fault doc section_keys) _ f (at_some doc number_keys check_keys f e)

pub fault_of-check : (doc : Members) (f : ProfileFault)
    → first_section_fault doc number_keys ≡ None → first_section_fault doc check_keys ≡ Some f → fault_of doc ≡ Some f
fault_of-check doc f none e = or_some (first_section_fault doc section_keys) _ f (after_none doc number_keys check_keys none ∙ e)
