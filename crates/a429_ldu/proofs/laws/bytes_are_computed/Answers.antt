use Rattle.a429_ldu.proofs.CarriedFacts.{carries_of, carried_of, one_list}
use Rattle.a429_ldu.proofs.laws.bytes_are_computed.Goals as goal

pub returns-clause-carried : goal.returns-clause-carried
returns-clause-carried c p ws bytes is = (carries_of p is ws bytes, carried_of p is ws bytes)

pub returns-clause-one : goal.returns-clause-one
returns-clause-one c p ws xs ys is hx hy = one_list p is ws xs ys hx hy
