use Rattle.a429_word.specs.declared.digits.Letters.TheVariants.{Either, Upper}
use Rattle.a429_word.proofs.HexValues.{tabulated-is}
use Rattle.a429_word.proofs.digits.hex_value.Goals as goal

pub returns-in-Either-clause-digit : goal.returns-in-Either-clause-digit
returns-in-Either-clause-digit c = rw c.in-Either.is (tabulated-is Either c.args.byte c.from.result c.ranges.byte.fits c.from.ensures).digit

pub returns-in-Either-clause-value : goal.returns-in-Either-clause-value
returns-in-Either-clause-value c = (tabulated-is Either c.args.byte c.from.result c.ranges.byte.fits c.from.ensures).value

pub returns-in-Either-clause-most : goal.returns-in-Either-clause-most
returns-in-Either-clause-most c = (tabulated-is Either c.args.byte c.from.result c.ranges.byte.fits c.from.ensures).most

pub returns-in-Upper-clause-digit : goal.returns-in-Upper-clause-digit
returns-in-Upper-clause-digit c =
    rw c.in-Upper.is (tabulated-is Upper c.args.byte c.from-in-Upper.result c.ranges.byte.fits c.from-in-Upper.ensures).digit

pub returns-in-Upper-clause-value : goal.returns-in-Upper-clause-value
returns-in-Upper-clause-value c = (tabulated-is Upper c.args.byte c.from-in-Upper.result c.ranges.byte.fits c.from-in-Upper.ensures).value

pub returns-in-Upper-clause-most : goal.returns-in-Upper-clause-most
returns-in-Upper-clause-most c = (tabulated-is Upper c.args.byte c.from-in-Upper.result c.ranges.byte.fits c.from-in-Upper.ensures).most
