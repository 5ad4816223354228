use Rattle.std.proofs.Common.{◌+◌, ◌-◌, ◌%◌, refl, arith}
use Rattle.std.proofs.lemmas.Bool.{leb-true, le-leb}
use Rattle.a429_contradiction.proofs.SoFarFacts.{follows_file}
use Rattle.a429_contradiction.proofs.so_far.follows.Goals as goal

pub returns-else-past-eq0 : goal.returns-else-past-eq0
returns-else-past-eq0 c =
    let n = c.args.number in
    let m = c.args.later in
    let k = (m.file + (256 - n.file)) % 256 in
    let both = follows_file n m k (omega arith) (omega arith) refl c.if-past-eq0.false in
    ((λ h. both.0 (leb-true k 128 h)), (λ h. le-leb k 128 (both.1 h)))
