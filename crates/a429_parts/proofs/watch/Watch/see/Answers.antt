use Rattle.std.proofs.Common.{sym, ◌∙◌}
use Rattle.a429_ldu.specs.Form.{form_of}
use Rattle.a429_parts.proofs.WatchFacts.{full_is}
use Rattle.a429_parts.proofs.watch.Watch.see.Goals as goal

pub see_form-requires-clause-form : goal.see_form-requires-clause-form
see_form-requires-clause-form c =
    full_is (form_of c.args.profile.now.codes c.args.seen.now.bus c.args.seen.now.word) c.in-Some.form
    (sym c.form_if_full.ensures ∙ c.in-Some.is)
