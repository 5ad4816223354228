use Rattle.std.proofs.Common.{◌≡◌, ◌∷◌, ◌++◌, map, take}
use Rattle.a429_ldu.specs.declared.forms.Form.TheVariants as form
use Rattle.a429_ldu.specs.Form.{word_number}
use Rattle.a429_ldu.specs.Ldu.{count_of, block_of}
use Rattle.a429_link.specs.Carry.{on_a, on_b}
use Rattle.a429_link.proofs.clean.push_unit.Given as goal

abbrev pub invariant-loop-k : goal.invariant-loop-k
invariant-loop-k l =
    l.run.items ≡ l.fn.run.items
    ++ (on_a (word_number l.profile.codes (form.Rts (count_of l.unit))) ∷ (on_b (word_number l.profile.codes (form.Cts (count_of l.unit)))
    ∷ map on_a (take l.k (block_of l.profile.codes l.unit l.file l.ldu))))
