use Rattle.std.proofs.Common.{subst}
use Rattle.a429_profile.specs.Profile.{IsProfile}
use Rattle.a429_explain.specs.Decoded.{HeardValue}
use Rattle.a429_explain.proofs.DecodedFacts.{heard_here, heard_range}
use Rattle.a429_explain.proofs.decoded.Decoded.word.Goals as goal

pub returns-clause-is : goal.returns-clause-is
returns-clause-is c =
    heard_here c.args.self.now.profile.codes c.args.self.now.items c.args.at c.seen-word.result c.sight.result c.form-form.result
    c.seen-word.ensures c.sight.ensures c.form-form.ensures

pub returns-clause-range : goal.returns-clause-range
returns-clause-range c =
    heard_range c.args.self.now.profile (subst (λ (h : HeardValue). IsProfile h.profile) c.self.view_is c.codes-codes.ensures.sound)
    c.args.self.now.items c.args.at _ (returns-clause-is c)
