use Rattle.std.proofs.Common.{refl}
use Rattle.a429_word.proofs.SheetFacts.{◌▹◌}
use Rattle.a429_view.proofs.show.put_entry.Goals as goal

pub returns : goal.returns
returns g c =
    let shown = c.put_shown.ensures in (
      _,
      record {
        what = c.shown_by_parity.result;
        text = shown.0;
        is_shown = c.shown_by_parity.ensures.shown;
        is_text = shown.1;
        layout = refl;
      },
      c.put_recorded.ensures ▹ shown.2 ▹ c.put.ensures,
    )
