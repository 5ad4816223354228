use Rattle.std.proofs.Common.{arith, refl}
use Rattle.a429_profile.specs.CheckTables.{turned}
use Rattle.a429_ldu.proofs.CheckWordDown.{by_table}
use Rattle.a429_ldu.proofs.check_words.after_byte.Goals as goal

pub returns : goal.returns
returns c =
    by_table (turned c.args.check.now.poly) c.args.register c.args.byte _ c.after_zeros.result (omega arith) refl c.after_zeros.ensures
