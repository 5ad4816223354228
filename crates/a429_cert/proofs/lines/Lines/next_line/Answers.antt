use Rattle.std.proofs.Common.{◌∙◌, ap, arith}
use Rattle.a429_cert.specs.Lines.{certificate_lines}
use Rattle.a429_cert.proofs.LinesFacts.{ends_at, unended, given_line, left_lines, left_shorter, given_unended, left_none}
use Rattle.a429_cert.proofs.lines.Lines.next_line.Goals as goal

pub split_at-requires : goal.split_at-requires
split_at-requires c =
    let at = ends_at c.self.inside.rest.now c.memchr.result c.in-Some.end c.memchr.ensures c.in-Some.is in omega (arith, at.inside)

pub returns-in-Some-clause-given : goal.returns-in-Some-clause-given
returns-in-Some-clause-given c =
    given_line c.self.inside.rest.now c.args.self.now c.in-Some.end c.split_at.result.0.now c.self.view_is
    (ends_at c.self.inside.rest.now c.memchr.result c.in-Some.end c.memchr.ensures c.in-Some.is) c.split_at.ensures.front

pub returns-in-Some-clause-rest : goal.returns-in-Some-clause-rest
returns-in-Some-clause-rest c = ap certificate_lines c.after_first-self-inside.ensures
    ∙ left_lines c.self.inside.rest.now c.args.self.now c.in-Some.end c.split_at.result.1.now c.self.view_is
    (ends_at c.self.inside.rest.now c.memchr.result c.in-Some.end c.memchr.ensures c.in-Some.is) c.split_at.ensures.back

pub returns-in-Some-clause-shorter : goal.returns-in-Some-clause-shorter
returns-in-Some-clause-shorter c = λ t.
    left_shorter c.self.inside.rest.now c.args.self.now c.in-Some.end c.split_at.result.1.now c.after_first-self-inside.result.now
    c.self.view_is (ends_at c.self.inside.rest.now c.memchr.result c.in-Some.end c.memchr.ensures c.in-Some.is) c.split_at.ensures.back
    c.after_first-self-inside.ensures

pub returns-in-None-clause-given : goal.returns-in-None-clause-given
returns-in-None-clause-given c =
    given_unended c.self.inside.rest.now c.args.self.now c.self.view_is
    (unended c.self.inside.rest.now c.memchr.result c.is_empty.result c.memchr.ensures c.in-None.is c.is_empty.ensures c.if-is_empty.false)

pub returns-in-None-clause-rest : goal.returns-in-None-clause-rest
returns-in-None-clause-rest c =
    left_none c.self.inside.rest.now c.args.self.now c.self.view_is
    (unended c.self.inside.rest.now c.memchr.result c.is_empty.result c.memchr.ensures c.in-None.is c.is_empty.ensures c.if-is_empty.false)
