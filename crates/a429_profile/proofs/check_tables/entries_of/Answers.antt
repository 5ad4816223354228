use Rattle.std.proofs.Common.{◌≡◌, ◌∙◌, ◌/◌, ◌%◌, arith}
use Rattle.a429_profile.specs.CheckTables.{after_zeros}
use Rattle.a429_profile.proofs.CheckTablesFacts.{begun, earlier, entry_more}
use Rattle.a429_profile.proofs.check_tables.entries_of.Goals as goal
use Rattle.a429_profile.proofs.check_tables.entries_of.Goals.{then-at-lt-BYTES, else-at-lt-BYTES}

pub loop-at-preserved : goal.loop-at-preserved
loop-at-preserved c =
    let poly = c.args.poly in
    let at = c.loop-at.at in
    let before : c.if-at-lt-BYTES.before ≡ after_zeros poly (at / 256) (at % 256) = elim c.if-at-lt-BYTES.branch [
      | then-at-lt-BYTES w ↦ w.before-is ∙ begun poly at w.if-at-lt-BYTES.true
      | else-at-lt-BYTES w ↦
          earlier poly at c.if-at-lt-BYTES.before w.index.result.now c.loop-at.entries.items c.loop-at.invariant
          (omega (arith, w.if-at-lt-BYTES.false)) (w.before-is ∙ w.index.ensures)
    ] in
    entry_more poly at c.if-at-lt-BYTES.before c.after_zero_byte.result c.loop-at.entries.items c.push.new.self.items c.loop-at.invariant
    c.in_ok-push.ensures.items before c.after_zero_byte.ensures
