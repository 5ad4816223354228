-- Why the bytes of a reader could not be read to their end (profile).
use Rattle.std.specs.Prelude.{◌≡◌, Bool, true, false}
use Rattle.a429_commands.specs.declared.fault.RunFault.{RunFault}
use Rattle.a429_commands.specs.Fault.{ComesBy, never}

-- their reader failed, or it did not, and memory was refused
abbrev pub IsWholeFault : Bool → RunFault → Type 0
IsWholeFault failed = ComesBy (record never { device = failed ≡ true; memory = failed ≡ false })
