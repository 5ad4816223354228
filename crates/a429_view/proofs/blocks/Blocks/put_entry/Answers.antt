use Rattle.std.proofs.Common.{◌++◌, refl, subst}
use Rattle.a429_word.specs.Sheet.{Says}
use Rattle.a429_word.specs.declared.sheet.Sheet.{Sheet}
use Rattle.a429_word.proofs.SheetFacts.{◌▹◌}
use Rattle.a429_view.specs.declared.blocks.Blocks.{Blocks}
use Rattle.a429_view.specs.Blocks.{begun_text, last_line, not_allowed_line}
use Rattle.a429_view.proofs.BlocksFacts.{blocks_more, puts_nothing, refused_more, text_more}
use Rattle.a429_view.proofs.blocks.Blocks.put_entry.Goals as goal

pub returns-in-Ok-clause-next : goal.returns-in-Ok-clause-next
returns-in-Ok-clause-next g c es few h =
    blocks_more c.args.profile.now c.args.self.now c.go_on.new.self es c.args.entry.now few c.in-Ok.ensures.steps h

pub returns-in-Ok-clause-rows : goal.returns-in-Ok-clause-rows
returns-in-Ok-clause-rows g c es few h =
    record { more = _; is = text_more c.args.profile.now c.args.self.now es c.args.entry.now few h; says = c.in-Ok.ensures.line }

pub returns-in-Ok-clause-sound : goal.returns-in-Ok-clause-sound
returns-in-Ok-clause-sound g c = c.go_on.ensures.sound

pub returns-in-Err-OutOfMemory-clause-stop_rows : goal.returns-in-Err-OutOfMemory-clause-stop_rows
returns-in-Err-OutOfMemory-clause-stop_rows g c es h =
    puts_nothing g.W.Write.contents c.args.sheet.now c.go_on.new.sheet
    (begun_text c.args.profile.now es) c.in-Err-OutOfMemory.ensures.nothing

pub returns-in-Err-OutOfMemory-clause-sound : goal.returns-in-Err-OutOfMemory-clause-sound
returns-in-Err-OutOfMemory-clause-sound g c = c.go_on.ensures.sound

pub returns-in-Err-Refused-clause-stop_rows : goal.returns-in-Err-Refused-clause-stop_rows
returns-in-Err-Refused-clause-stop_rows g c es h =
    let e = c.args.entry.now in
    let old = c.args.self.now in
    let contents = g.W.Write.contents in
    let end = c.put_not_allowed.new.sheet in
    let here = c.put_last.ensures ▹ c.put_not_allowed.ensures e refl in
    let by_old =
    subst (λ (b : Blocks). Says contents c.go_on.new.sheet end (last_line b.row ++ not_allowed_line b.entries e))
    c.in-Err-Refused.ensures.stays here in
    record {
      more = last_line old.row ++ not_allowed_line old.entries e;
      is = refused_more c.args.profile.now old es e h;
      says =
          subst (λ (s : Sheet _). Says contents s end (last_line old.row ++ not_allowed_line old.entries e))
          c.in-Err-Refused.ensures.nothing by_old;
    }

pub returns-in-Err-Refused-clause-sound : goal.returns-in-Err-Refused-clause-sound
returns-in-Err-Refused-clause-sound g c = c.go_on.ensures.sound
