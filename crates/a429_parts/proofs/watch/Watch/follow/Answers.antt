use Rattle.std.proofs.Common.{if◌then◌else◌, Option, Some, None, rules, subst}
use Rattle.a429_ldu.specs.declared.forms.Form.{Form}
use Rattle.a429_parts.specs.Cutting.{IsRequest}
use Rattle.a429_parts.specs.Watch.{Watched}
use Rattle.a429_parts.proofs.WatchFacts.{follows_crossed, follows_lost, follows_on, follows_seen}
use Rattle.a429_parts.proofs.watch.Watch.follow.Goals as goal

pub returns-in-Ok-Some-clause-follows : goal.returns-in-Ok-Some-clause-follows
returns-in-Ok-Some-clause-follows c =
    follows_crossed c.args.profile.now c.args.seen.now c.args.self.now c.cross.new.self c.self.inside.follower c.in-Ok-Some.unit
    (search rules) (search rules) (search rules) (search rules) (search rules) (search rules)

pub returns-in-Ok-None-clause-follows : goal.returns-in-Ok-None-clause-follows
returns-in-Ok-None-clause-follows c =
    let new : Watched = record {
      count = c.self.inside.count;
      observer =
          if c.self.inside.is_lost then None else Some c.see.new.self;
      doubt = c.self.inside.doubt;
    } in
    follows_seen c.args.profile.now c.args.seen.now c.args.self.now new c.self.inside.follower (search rules) (search rules) (search rules)
    (search rules) (search rules) (search rules)

pub returns-in-Err-clause-follows : goal.returns-in-Err-clause-follows
returns-in-Err-clause-follows c =
    follows_lost c.args.profile.now c.args.seen.now c.args.self.now c.lose.new.self c.self.inside.follower (search rules) (search rules)
    (search rules) (search rules) (search rules)

pub returns-else-is_request-clause-follows : goal.returns-else-is_request-clause-follows
returns-else-is_request-clause-follows c =
    let i = c.args.seen.now in
    follows_on c.args.profile.now i c.args.self.now (search rules)
    (λ request. cc (c.is_request.ensures.1 (subst (λ (f : Option Form). IsRequest i.bus f) c.requires.form request), c.if-is_request.false))
