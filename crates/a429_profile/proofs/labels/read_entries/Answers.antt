use Rattle.std.proofs.Common.{◌<◌, ◌∙◌, sym, length, arith}
use Rattle.toml.specs.View.{view}
use Rattle.a429_profile.specs.Value.{is_table}
use Rattle.a429_profile.specs.Labels.{entry_in_table, table_of}
use Rattle.a429_profile.proofs.Turns.{entries_fault-next, map-next, list_all-next}
use Rattle.a429_profile.proofs.labels.read_entries.Goals as goal

pub loop-position-preserved : goal.loop-position-preserved
loop-position-preserved c =
    let vs = c.args.values.now in
    let i = c.loop-position.position in
    let v = c.index-values-position.result in
    let inside : i < length vs = omega arith in
    let made = map-next (λ e. entry_in_table (table_of (view e))) c.loop-position.entries.items vs i v inside c.index-values-position.is in
    record {
      faults = c.loop-position.invariant.faults ∙ entries_fault-next vs i v inside c.index-values-position.is c.in_ok-entry.ensures.0;
      entries = rw (c.in-Ok.ensures.items, ← c.in_ok-entry.ensures.1) (sym made ∙ c.loop-position.invariant.entries);
      tables = (list_all-next (λ w. is_table (view w)) vs i v inside c.index-values-position.is c.loop-position.invariant.tables).1;
    }
