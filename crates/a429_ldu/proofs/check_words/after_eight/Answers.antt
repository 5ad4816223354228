use Rattle.std.proofs.Common.{arith, refl}
use Rattle.a429_profile.specs.CheckTables.{turned}
use Rattle.a429_ldu.proofs.CheckWordDown.{by_eight}
use Rattle.a429_ldu.proofs.check_words.after_eight.Goals as goal

pub returns : goal.returns
returns c =
    by_eight (turned c.args.check.now.poly) c.args.register _ _ c.args.bytes c.after_zeros.result c.after_zeros-2.result
    c.after_zeros-3.result c.after_zeros-4.result c.after_zeros-5.result c.after_zeros-6.result c.after_zeros-7.result
    c.after_zeros-8.result
    (omega arith) (omega arith, (omega arith, (omega arith, (omega arith, (omega arith, (omega arith, (omega arith, (omega arith, tt))))))))
    refl refl c.after_zeros.ensures c.after_zeros-2.ensures c.after_zeros-3.ensures c.after_zeros-4.ensures c.after_zeros-5.ensures
    c.after_zeros-6.ensures c.after_zeros-7.ensures c.after_zeros-8.ensures
