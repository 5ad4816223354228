use Rattle.std.proofs.Common.{◌≡◌, Some, sym, subst}
use Rattle.a429_word.specs.declared.bus.Bus.{Bus}
use Rattle.a429_link.specs.Contradiction.{so_far_after}
use Rattle.a429_contradiction.specs.SoFar.{unheard}
use Rattle.a429_contradiction.proofs.so_far.SoFar.take.Goals as goal

pub returns-in-B : goal.returns-in-B
returns-in-B c =
    subst (λ (b : Bus). unheard c.take_answer.new.self ≡ unheard (so_far_after b c.args.seen.word (Some c.args.form.now) c.args.self.now))
    (sym c.in-B.is) (c.take_answer.ensures c.args.seen.word)
