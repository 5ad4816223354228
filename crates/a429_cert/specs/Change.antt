-- What a call changes.

-- a value before and after
pub record Change (T : Type 0) : Type 0 where
  pub old : T
  pub new : T

abbrev pub change : {T : Type 0} → T → T → Change T
change old new = record { old = old; new = new }
