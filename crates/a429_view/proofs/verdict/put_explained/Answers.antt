use Rattle.a429_word.proofs.SheetFacts.{◌▹◌}
use Rattle.a429_view.proofs.VerdictTexts.{yes_of_files}
use Rattle.a429_view.proofs.verdict.put_explained.Goals as goal

pub returns : goal.returns
returns g c = rw (yes_of_files c.args.files.now) (c.put_count.ensures ▹ c.put_files.ensures)
