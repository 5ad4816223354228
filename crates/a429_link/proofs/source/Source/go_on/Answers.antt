use Rattle.std.proofs.Common.{rules, IsSome, sym, subst, arith}
use Rattle.a429_link.specs.Source.{Source, next_word_of}
use Rattle.a429_link.proofs.SourceBlock.{sending_room}
use Rattle.a429_link.proofs.source.Source.go_on.Goals as goal

pub overflow_add-sent : goal.overflow_add-sent
overflow_add-sent c =
    let has = subst (λ (s : Source). IsSome (next_word_of c.args.profile.now s)) (sym c.self.view_is) c.requires in
    let room =
    sending_room c.args.profile.now.codes c.self.inside.number _ _ c.in-Some.unit c.in-Sending.sent c.in-Some.is c.in-Sending.is has in
    omega (arith, room, c.count-count.ensures.value, c.count-count.type_inv)

pub overflow_add-self : goal.overflow_add-self
overflow_add-self c =
    let has = subst (λ (s : Source). IsSome (next_word_of c.args.profile.now s)) (sym c.self.view_is) c.requires in
    let room =
    sending_room c.args.profile.now.codes c.self.inside.number _ _ c.in-Some.unit c.in-Sending.sent c.in-Some.is c.in-Sending.is has in
    omega (arith, room, c.count-count.ensures.value, c.count-count.type_inv)

pub returns-after-sent-count : goal.returns-after-sent-count
returns-after-sent-count c = search rules
