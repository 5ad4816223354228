-- What a reader of a profile returns: a value, or the first fault (profile).
use Rattle.std.specs.Prelude.{◌≡◌, ◌≢◌, Option, Some, None, Result, Ok, Err}
use Rattle.a429_profile.specs.declared.fault.ProfileFault.{ProfileFault}
use Rattle.a429_profile.specs.declared.fault.ProfileFault.TheVariants.{OutOfMemory}

-- the fault that comes first
abbrev pub first_or : Option ProfileFault → Option ProfileFault → Option ProfileFault
first_or (Some f) rest = Some f
first_or None rest = rest

-- the value where nothing is wrong, and else exactly this fault
abbrev pub Gives : {A : Type 0} → A → Option ProfileFault → Result A ProfileFault → Type 0
Gives value fault (Ok a) = (fault ≡ None) × (value ≡ a)
Gives value fault (Err f) = fault ≡ Some f

-- the same of a reader that takes memory, unless memory is refused
abbrev pub GivesInMemory : {A : Type 0} → A → Option ProfileFault → Result A ProfileFault → Type 0
GivesInMemory value fault (Ok a) = (fault ≡ None) × (value ≡ a)
GivesInMemory value fault (Err f) = f ≢ OutOfMemory → fault ≡ Some f
