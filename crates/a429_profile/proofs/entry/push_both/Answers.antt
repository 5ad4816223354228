use Rattle.std.proofs.lemmas.Result.{on_ok_weaker}
use Rattle.a429_profile.proofs.FlagsFacts.{both_texts-is}
use Rattle.a429_profile.proofs.entry.push_both.Goals as goal

pub returns : goal.returns
returns c =
    on_ok_weaker c.push_text-2.result
    (λ e. both_texts-is c.args.texts.now.items _ _ c.args.flag.now c.in_ok-push_text.ensures e) c.push_text-2.ensures
