-- What a reader of a map returns: a value, or the first fault (profile).
use Rattle.std.specs.Prelude.{◌≡◌, ◌≢◌, Option, Some, None, Result, Ok, Err}
use Rattle.a429_import.specs.declared.fault.MapFault.{MapFault}
use Rattle.a429_import.specs.declared.fault.MapFault.TheVariants.{OutOfMemory}

-- the fault that comes first
abbrev pub first_or : Option MapFault → Option MapFault → Option MapFault
first_or (Some f) rest = Some f
first_or None rest = rest

-- the value where nothing is wrong, and else exactly this fault
abbrev pub Gives : {A : Type 0} → A → Option MapFault → Result A MapFault → Type 0
Gives value fault (Ok a) = (fault ≡ None) × (value ≡ a)
Gives value fault (Err f) = fault ≡ Some f

-- the same of a reader of a value that may be none, where nothing is wrong it is some
abbrev pub GivesSome : {A : Type 0} → Option A → Option MapFault → Result A MapFault → Type 0
GivesSome value fault (Ok a) = (fault ≡ None) × (value ≡ Some a)
GivesSome value fault (Err f) = fault ≡ Some f

-- the same of a reader that takes memory, unless memory is refused
abbrev pub GivesInMemory : {A : Type 0} → A → Option MapFault → Result A MapFault → Type 0
GivesInMemory value fault (Ok a) = (fault ≡ None) × (value ≡ a)
GivesInMemory value fault (Err f) = f ≢ OutOfMemory → fault ≡ Some f
