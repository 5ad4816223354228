use Rattle.std.proofs.Common.{sym, refl, subst, []}
use Rattle.std.proofs.lemmas.List.{get_or-replicate}
use Rattle.a429_view.specs.Survey.{IsHits, IsLabelCount, no_hits, no_label}
use Rattle.a429_view.proofs.survey.counts.BusCount.new.Goals as goal

pub returns : goal.returns
returns c = λ codes. record {
  entries = refl;
  kind_count = refl;
  kinds = λ k l. subst (λ h. IsHits h []) (sym (get_or-replicate 13 k no_hits no_hits l)) refl;
  label_count = refl;
  labels = λ k l. subst (λ h. IsLabelCount h []) (sym (get_or-replicate 256 k no_label no_label l)) (refl, refl);
}
