use Rattle.std.proofs.Common.{◌<◌, ◌≤◌, length, arith}
use Rattle.std.proofs.lemmas.List.{take_all}
use Rattle.a429_word.proofs.SheetFacts.{◌▹◌}
use Rattle.a429_view.proofs.LabelsFacts.{label_lines-more}
use Rattle.a429_view.proofs.labels.put_labels.Goals as goal

pub loop-i-preserved : goal.loop-i-preserved
loop-i-preserved g c =
    let inside : c.loop-i.i < length c.args.profile.now.labels = omega arith in
    rw (label_lines-more c.args.profile.now.labels c.loop-i.i c.in-Some.entry.now inside c.in-Some.ensures)
    (c.loop-i.invariant ▹ c.put_entry.ensures)

pub returns : goal.returns
returns g c =
    let past : length c.args.profile.now.labels ≤ c.loop-i.i = omega arith in
    rw (take_all c.loop-i.i c.args.profile.now.labels past) at c.loop-i.invariant
