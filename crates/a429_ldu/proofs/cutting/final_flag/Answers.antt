use Rattle.a429_ldu.proofs.CutFacts.{flag_made}
use Rattle.a429_ldu.proofs.cutting.final_flag.Goals as goal

pub overflow_sub-result : goal.overflow_sub-result
overflow_sub-result c = (flag_made c.args.profile.now c.codes.ensures.sound c.codes.result.now c.codes.ensures.codes).low

pub overflow_shl-result : goal.overflow_shl-result
overflow_shl-result c = (flag_made c.args.profile.now c.codes.ensures.sound c.codes.result.now c.codes.ensures.codes).high

pub returns-clause-value : goal.returns-clause-value
returns-clause-value c = (flag_made c.args.profile.now c.codes.ensures.sound c.codes.result.now c.codes.ensures.codes).value

pub returns-clause-range : goal.returns-clause-range
returns-clause-range c = (flag_made c.args.profile.now c.codes.ensures.sound c.codes.result.now c.codes.ensures.codes).range
