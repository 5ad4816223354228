-- A prefix of a prefix.
use Rattle.std.proofs.Common.{◌≡◌, ◌++◌, ℕ, List, Option, subst}
use Rattle.a429_word.specs.Tally.{AppendsPrefix}
use Rattle.a429_word.proofs.PageFacts.{AppendsPrefix-longer}

-- a prefix of a prefix is one of the whole
pub prefix_of_whole : (a b : Option (List ℕ)) (text rest whole : List ℕ)
    → text ++ rest ≡ whole → AppendsPrefix a b text → AppendsPrefix a b whole
prefix_of_whole a b text rest whole e h = subst (AppendsPrefix a b) e (AppendsPrefix-longer a b text rest h)
