use Rattle.std.proofs.Common.{◌≡◌, length, refl, arith}
use Rattle.a429_explain.specs.Decoded.{forms_of}
use Rattle.a429_explain.proofs.AttemptsFacts.{stands_first, stands_last, stands_next}
use Rattle.a429_explain.proofs.attempts.roles.Goals as goal

pub loop-left-init : goal.loop-left-init
loop-left-init c =
    let all : length c.in_ok-found.found.items ≡ length c.args.decoded.now.items =
    omega (arith, c.in_ok-found.ensures.len, c.len.ensures) in
    rw c.len-left.ensures (stands_first c.args.decoded.now.profile.codes c.args.decoded.now.items c.in_ok-found.found.items all)

pub index_mut-requires : goal.index_mut-requires
index_mut-requires c = omega (arith, c.loop-left-test.true, c.loop-left.invariant.inside, c.loop-left.invariant.length_is)

pub loop-left-preserved : goal.loop-left-preserved
loop-left-preserved c =
    stands_next c.args.decoded.now.profile.codes c.args.decoded.now.items _ c.loop-left.left c.word-form.result c.loop-left.found.items
    _ c.loop-left.ahead c.before-ahead.result c.role_of.result (omega (arith, c.loop-left-test.true))
    c.word-form.ensures.is c.role_of.ensures c.before-ahead.ensures refl c.loop-left.invariant

pub returns : goal.returns
returns c =
    stands_last (forms_of c.args.decoded.now.profile.codes c.args.decoded.now.items) c.loop-left.left c.loop-left.found.items
    c.loop-left.ahead (omega (arith, c.loop-left-test.false)) c.loop-left.invariant
