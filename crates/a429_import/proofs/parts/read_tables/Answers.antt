use Rattle.std.proofs.Common.{◌<◌, ◌∙◌, sym, length, arith}
use Rattle.std.proofs.lemmas.List.Elements.{All-push}
use Rattle.toml.specs.View.{view}
use Rattle.a429_profile.specs.Value.{is_table}
use Rattle.a429_profile.specs.Labels.{table_of}
use Rattle.a429_profile.proofs.Turns.{map-next, list_all-next}
use Rattle.a429_import.specs.Part.{IsSoundPart}
use Rattle.a429_import.specs.PartTable.{part_in_table}
use Rattle.a429_import.proofs.PartsFacts.{tables_fault-next}
use Rattle.a429_import.proofs.parts.read_tables.Goals as goal

pub loop-position-preserved : goal.loop-position-preserved
loop-position-preserved c =
    let vs = c.args.values.now in
    let i = c.loop-position.position in
    let v = c.index-values-position.result in
    let header = c.args.header in
    let inside : i < length vs = omega arith in
    let gives = c.in_ok-part.ensures.gives in
    let made =
    map-next (λ e. part_in_table header (table_of (view e))) c.loop-position.parts.items vs i v inside c.index-values-position.is in
    let same = rw c.as_slice.ensures.value at gives.0 in
    let faults =
    c.loop-position.invariant.faults ∙ tables_fault-next header c.loop-position.parts.items vs i v inside c.index-values-position.is same in
    record {
      faults = rw (c.in-Ok.ensures.items, ← gives.1) faults;
      parts = rw (c.in-Ok.ensures.items, ← gives.1) (sym made ∙ c.loop-position.invariant.parts);
      tables = (list_all-next (λ w. is_table (view w)) vs i v inside c.index-values-position.is c.loop-position.invariant.tables).1;
      sound =
          rw c.in-Ok.ensures.items
          (All-push IsSoundPart c.loop-position.parts.items c.in_ok-part.part c.loop-position.invariant.sound c.in_ok-part.ensures.sound);
    }
