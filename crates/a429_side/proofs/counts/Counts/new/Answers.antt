use Rattle.std.proofs.Common.{[], refl, subst, sym}
use Rattle.std.proofs.lemmas.List.{get_or-replicate}
use Rattle.a429_side.specs.Counts.{IsDestinationCount, no_words}
use Rattle.a429_side.proofs.counts.Counts.new.Goals as goal

pub returns : goal.returns
returns c = record {
  entries = refl;
  kept = refl;
  of_other = refl;
  of_none = refl;
  renamed = refl;
  destinations = record {
    code_count = refl;
    each = λ d l. subst (λ h. IsDestinationCount h []) (sym (get_or-replicate 256 d no_words no_words l)) (refl, refl);
  };
}
