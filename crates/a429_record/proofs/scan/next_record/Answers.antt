use Rattle.std.proofs.Common.{◌∙◌, ◌+◌, sym, arith, refl, length, drop, get_or}
use Rattle.std.proofs.lemmas.List.{at_drop_more, at_drop_all, drop_all}
use Rattle.csv.specs.Machine as Machine
use Rattle.csv.specs.Records.{fields_of}
use Rattle.csv.specs.Reading.{default_config}
use Rattle.a429_record.specs.Scan.{state_of, action_of}
use Rattle.a429_record.proofs.ScanFacts.{goes_on, stops_at, last_ends, last_none}
use Rattle.a429_record.proofs.scan.next_record.Goals as goal

pub bytes-init : goal.bytes-init
bytes-init c = record {
  reads = rw (c.clear.ensures.fields, c.clear-2.ensures.items) refl;
  partial = c.clear.ensures.partial;
}

pub act-requires : goal.act-requires
act-requires c = c.bytes.invariant.partial

pub returns-then-is_end : goal.returns-then-is_end
returns-then-is_end c =
    let s = state_of c.bytes.place in
    let fields = fields_of c.bytes.row in
    let field = c.bytes.field.items in
    let xs = c.args.bytes.now in
    let here = at_drop_more (Machine.next_record default_config s fields field) xs c.bytes.at 0 (omega arith) in
    let stop =
    stops_at s (state_of c.in-Some.next.place) (action_of c.in-Some.next.deed) fields field (get_or xs c.bytes.at 0)
    (drop (c.bytes.at + 1) xs)
    (rw c.in-Some.is at c.step.ensures) (sym c.is_end.ensures ∙ c.if-is_end.true) in
    (omega arith, rw c.in_ok-act.ensures.fields (c.bytes.invariant.reads ∙ here ∙ stop))

pub bytes-preserved : goal.bytes-preserved
bytes-preserved c =
    let s = state_of c.bytes.place in
    let fields = fields_of c.bytes.row in
    let field = c.bytes.field.items in
    let xs = c.args.bytes.now in
    let here = at_drop_more (Machine.next_record default_config s fields field) xs c.bytes.at 0 (omega arith) in
    let on =
    goes_on s (state_of c.in-Some.next.place) (action_of c.in-Some.next.deed) fields field (get_or xs c.bytes.at 0)
    (drop (c.bytes.at + 1) xs)
    (rw c.in-Some.is at c.step.ensures) (sym c.is_end.ensures ∙ c.if-is_end.false) in
    record {
      reads = rw (c.in_ok-act.ensures.fields, c.in_ok-act.ensures.field) (c.bytes.invariant.reads ∙ here ∙ on);
      partial = c.in_ok-act.ensures.partial;
    }

pub returns-then-ends_at_end : goal.returns-then-ends_at_end
returns-then-ends_at_end c =
    let xs = c.args.bytes.now in
    let here =
    at_drop_all (Machine.next_record default_config (state_of c.bytes.place) (fields_of c.bytes.row) c.bytes.field.items) xs c.bytes.at
    (omega arith) in
    let last =
    last_ends (state_of c.bytes.place) (fields_of c.bytes.row) c.bytes.field.items (sym c.ends_at_end.ensures ∙ c.if-ends_at_end.true) in
    let pushed = rw c.bytes.invariant.partial at c.in_ok-push_field.ensures.fields in
    (omega arith, rw (pushed, c.as_slice.ensures.value, drop_all (length xs) xs (omega arith)) (c.bytes.invariant.reads ∙ here ∙ last))

pub returns : goal.returns
returns c =
    let none = drop_all c.bytes.at c.args.bytes.now (omega arith) in
    rw none at c.bytes.invariant.reads
    ∙ last_none (state_of c.bytes.place) (fields_of c.bytes.row) c.bytes.field.items (sym c.ends_at_end.ensures ∙ c.if-ends_at_end.false)
