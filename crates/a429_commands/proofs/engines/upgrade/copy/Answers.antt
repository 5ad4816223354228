use Rattle.std.proofs.Common.{◌++◌, take, rules}
use Rattle.std.proofs.KnownBytes.{Consumes-trans, Appends-trans}
use Rattle.a429_word.proofs.PageFacts.{AppendsPrefix-whole}
use Rattle.a429_cert.proofs.Options.{on_err}
use Rattle.a429_commands.proofs.UpgradeFacts.{front_after, front_copied}
use Rattle.a429_commands.proofs.engines.upgrade.copy.Goals as goal

pub returns-in_err-n-clause-err : goal.returns-in_err-n-clause-err
returns-in_err-n-clause-err g c =
    let before = c.pieces.invariant in
    on_err c.from_residual.result (front_copied _ _ _ _ before.moved before.read (AppendsPrefix-whole _ _ before.moved before.written))

pub pieces-preserved : goal.pieces-preserved
pieces-preserved g c =
    let before = c.pieces.invariant in
    let piece = take c.in_ok-n.n c.pull.new.buf in
    record {
      moved = before.moved ++ piece;
      read = Consumes-trans _ _ _ before.moved piece before.read c.in_ok-n.ensures.bytes.0;
      written = Appends-trans _ _ _ before.moved piece before.written c.in_ok-put.ensures.ok;
      works = search rules;
    }

pub returns-in_err-put-clause-err : goal.returns-in_err-put-clause-err
returns-in_err-put-clause-err g c =
    let before = c.pieces.invariant in
    let piece = take c.in_ok-n.n c.pull.new.buf in
    on_err c.from_residual-in_err-put.result
    (front_copied _ _ _ _ (before.moved ++ piece) (Consumes-trans _ _ _ before.moved piece before.read c.in_ok-n.ensures.bytes.0)
    (front_after _ _ _ before.moved piece before.written c.in_err-put.ensures.err))
