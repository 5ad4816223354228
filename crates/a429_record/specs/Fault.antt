-- A fault as the answer of a call that reads (profile).
use Rattle.std.specs.Prelude.{◌≡◌, ℕ, List, Some, ⊤}
use Rattle.a429_record.specs.declared.fault.ReadFault.{ReadFault}
use Rattle.a429_record.specs.declared.fault.ReadFault.TheVariants as fault
use Rattle.a429_record.specs.Recording.{stands_for}

-- a fault is the first one of the bytes, unless it is a failed device or out of memory; `Failed` is none of any bytes
abbrev pub IsFirstReadFault : ReadFault → List ℕ → Type 0
IsFirstReadFault fault.Device bytes = ⊤
IsFirstReadFault fault.OutOfMemory bytes = ⊤
IsFirstReadFault fault.Failed bytes = ⊥
IsFirstReadFault f bytes = (stands_for bytes).fault ≡ Some f
