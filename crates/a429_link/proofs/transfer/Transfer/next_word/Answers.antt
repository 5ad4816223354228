use Rattle.std.proofs.Common.{subst}
use Rattle.a429_link.specs.declared.carry.NextWord.{NextWord}
use Rattle.a429_link.specs.Carry.{SendsNext}
use Rattle.a429_link.specs.State.{State}
use Rattle.a429_link.proofs.transfer.Transfer.next_word.Goals as goal

pub returns-in_default-clause-none : goal.returns-in_default-clause-none
returns-in_default-clause-none c =
    subst (λ (s : State). (next : NextWord) → SendsNext c.args.profile.now next s → ⊥) c.self.view_is
    (λ next h. c.in_default.ensures.none next.place h.sends)
