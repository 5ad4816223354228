use Rattle.a429_explain.proofs.WithoutLoss.{clean_without_loss}
use Rattle.a429_explain.proofs.laws.what_clean_run_gives_is_without_loss.Goals as goal

pub returns : goal.returns
returns c = clean_without_loss
