use Rattle.std.proofs.Common.{◌∙◌, ap}
use Rattle.a429_profile.specs.Profile.{entries_of}
use Rattle.a429_profile.proofs.ProfileKept.{label_and_sdi, insert_entry-apart, entries_of-end, AreKeyed-end}
use Rattle.a429_profile.proofs.profile.keep.Goals as goal

pub returns-clause-entries : goal.returns-clause-entries
returns-clause-entries c =
    let ks = c.args.labels.now.entries in
    let e = c.args.entry in
    ap entries_of (c.in_ok-insert.ensures.entries ∙ insert_entry-apart e ks c.requires.keyed c.requires.apart)
    ∙ entries_of-end ks (label_and_sdi e, e)

pub returns-clause-keyed : goal.returns-clause-keyed
returns-clause-keyed c =
    let ks = c.args.labels.now.entries in
    let e = c.args.entry in
    rw (c.in_ok-insert.ensures.entries ∙ insert_entry-apart e ks c.requires.keyed c.requires.apart) (AreKeyed-end ks e c.requires.keyed)
