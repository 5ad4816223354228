use Rattle.std.proofs.Common.{◌∙◌, sym, lit<}
use Rattle.a429_record.proofs.LineRecords.{three, missing}
use Rattle.a429_record.proofs.row.fields_in.Goals as goal

pub returns-in_default-clause-none : goal.returns-in_default-clause-none
returns-in_default-clause-none c n = missing _ 0 n (lit< tt) (rw c.in_default.is at c.get.ensures.value)

pub returns-in_default-get-clause-none : goal.returns-in_default-get-clause-none
returns-in_default-get-clause-none c n = missing _ 1 n (lit< tt) (rw c.in_default-get.is at c.get-2.ensures.value)

pub returns-in_default-get-2-clause-none : goal.returns-in_default-get-2-clause-none
returns-in_default-get-2-clause-none c n = missing _ 2 n (lit< tt) (rw c.in_default-get-2.is at c.get-3.ensures.value)

pub returns-clause-some : goal.returns-clause-some
returns-clause-some c =
    three _ _ _ _ (sym c.len.ensures ∙ c.if-len-ne3.false) (rw c.in-Some.is at c.get.ensures.value)
    (rw c.in-Some-get.is at c.get-2.ensures.value) (rw c.in-Some-get-2.is at c.get-3.ensures.value)
