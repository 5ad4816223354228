use Rattle.std.proofs.Common.{◌∙◌, ap}
use Rattle.a429_ldu.specs.Sight.{form_in}
use Rattle.a429_ldu.proofs.SightFacts.{form_of-sight}
use Rattle.a429_view.proofs.units.counts.form_of.Goals as goal

pub returns : goal.returns
returns c =
    c.form-2.ensures ∙ ap form_in c.form.ensures.computed
    ∙ form_of-sight c.args.profile.now.codes c.args.entry.now.bus c.args.entry.now.word
