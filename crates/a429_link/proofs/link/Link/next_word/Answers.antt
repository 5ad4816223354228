use Rattle.std.proofs.Common.{IfSome, IfNone, subst}
use Rattle.std.proofs.lemmas.Option.{IfSome_then}
use Rattle.a429_link.specs.declared.carry.NextWord.{NextWord}
use Rattle.a429_link.specs.Carry.{IsAtWord}
use Rattle.a429_link.specs.Link.{LinkValue}
use Rattle.a429_link.proofs.CarryFacts.{at_word, is_next, none_then}
use Rattle.a429_link.proofs.link.Link.next_word.Goals as goal

pub returns-clause-some : goal.returns-clause-some
returns-clause-some c =
    subst (λ (l : LinkValue). IfSome c.next_word.result (λ next. IsAtWord l.profile next l.state)) c.self.view_is
    (IfSome_then c.next_word.result c.next_word.ensures.some
    (λ next h. at_word c.self.inside.profile.now next c.self.inside.transfer c.self.invariant h))

pub returns-clause-none : goal.returns-clause-none
returns-clause-none c =
    subst (λ (l : LinkValue). IfNone c.next_word.result ((next : NextWord) → IsAtWord l.profile next l.state → ⊥)) c.self.view_is
    (none_then c.next_word.result c.next_word.ensures.none
    (λ none next h. none next (is_next c.self.inside.profile.now next c.self.inside.transfer h)))
