use Rattle.std.proofs.Common.{◌-◌, ℕ, Option, Ok, sym, ap, subst, arith}
use Rattle.a429_merge.specs.Order.{lists_of}
use Rattle.a429_merge.specs.Fill.{AreDataOf}
use Rattle.a429_merge.specs.Block.{check_wanted}
use Rattle.a429_merge.proofs.BlockFacts.{data_of_unit}
use Rattle.a429_merge.proofs.block.unit_of_pieces.Goals as goal

pub returns-in-None-clause-exact : goal.returns-in-None-clause-exact
returns-in-None-clause-exact c nothing uncut few u m =
    let p = c.args.profile.now in
    let pieces = c.args.pieces.now in
    let words = data_of_unit p c.codes-codes.ensures.sound pieces u m in
    let counted =
    subst (λ (n : ℕ). AreDataOf p (n - 2) (check_wanted p pieces.end) (lists_of pieces.attempts.items) u.words)
    (sym c.from.ensures) words in
    let asked =
    subst (λ (o : Option ℕ). AreDataOf p (c.from.result - 2) o (lists_of pieces.attempts.items) u.words)
    (sym c.check_wanted.ensures) counted in
    let all = subst (λ vs. AreDataOf p (c.from.result - 2) c.check_wanted.result (lists_of vs) u.words) (sym c.deref.ensures.value) asked in
    c.in_ok-words.ensures.exact (ap Ok c.in-None.is) uncut (omega (arith, few, c.from.ensures)) u.words all
