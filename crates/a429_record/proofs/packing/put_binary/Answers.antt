-- a group after those before it
use Rattle.std.proofs.Common.{◌≡◌, ◌∙◌, ◌++◌, sym, ap, refl, List, [], ℕ, append_assoc}
use Rattle.std.specs.List.{flat_map}
use Rattle.std.proofs.lemmas.Grind.{flat_map-append}
use Rattle.std.proofs.lemmas.List.{take-append-drop}
use Rattle.a429_word.proofs.SheetFacts.{◌▹◌, says_after_failure}
use Rattle.a429_record.specs.declared.entry.Entry.{Entry}
use Rattle.a429_record.specs.Binary.{magic, entry_piece, binary_form}
use Rattle.a429_record.proofs.packing.put_binary.Goals as goal

-- the form of some entries, and then the bytes of more
following : (front more : List Entry) → binary_form (front ++ more) ≡ binary_form front ++ flat_map entry_piece more
following front more = ap (λ (l : List ℕ). magic ++ l) (flat_map-append entry_piece front more)
    ∙ sym (append_assoc magic (flat_map entry_piece front) (flat_map entry_piece more))

pub groups-init : goal.groups-init
groups-init g c = ([], refl, c.put.ensures)

pub groups-preserved : goal.groups-preserved
groups-preserved g c =
    let inv = c.groups.invariant in
    let front : List Entry = inv.0 in
    let group = c.split_at.result.0.now in
    let more = c.split_at.result.1.now in
    let parts : group ++ more ≡ c.groups.rest.now =
    rw (c.split_at.ensures.front, c.split_at.ensures.back) (take-append-drop c.min.result c.groups.rest.now) in
    let all : c.args.entries.now ≡ (front ++ group) ++ more =
    inv.1 ∙ ap (λ (l : List Entry). front ++ l) (sym parts) ∙ sym (append_assoc front group more) in
    (front ++ group, all, rw (following front group) (inv.2 ▹ c.put_group.ensures))

-- the entries that are left are not written
pub returns-then-failed : goal.returns-then-failed
returns-then-failed g c =
    let inv = c.groups.invariant in
    let rest = c.groups.rest.now in
    let all = sym (following inv.0 rest) ∙ ap binary_form (sym inv.1) in
    rw all at (inv.2 ▹ says_after_failure _ _ (flat_map entry_piece rest) (sym c.failed.ensures ∙ c.if-failed.true))
