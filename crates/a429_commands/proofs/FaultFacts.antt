-- Why a command fails, compared cause by cause.
use Rattle.std.proofs.Common.{ℕ}
use Rattle.a429_profile.specs.declared.fault.ProfileFault.{ProfileFault}
use Rattle.a429_ldu.specs.declared.fault.CutFault.{CutFault}
use Rattle.a429_record.specs.declared.fault.ReadFault.{ReadFault}
use Rattle.a429_commands.specs.declared.fault.RunFault.{RunFault}
use Rattle.a429_commands.specs.declared.fault.RunFault.TheVariants as run
use Rattle.a429_commands.specs.Fault.{Causes, ComesBy}

-- where a cause holds, so does the other's
pub record Covers (c d : Causes) : Type 0 where
  pub profile : (f : ProfileFault) → c.profile f → d.profile f
  pub recording : (f : ReadFault) → c.recording f → d.recording f
  pub file : (k : ℕ) (f : CutFault) → c.file k f → d.file k f
  pub too_long : c.too_long → d.too_long
  pub no_place : c.no_place → d.no_place
  pub device : c.device → d.device
  pub memory : c.memory → d.memory

-- a fault that comes by some causes comes by those that cover them
pub comes_by : (c d : Causes) → Covers c d → (e : RunFault) → ComesBy c e → ComesBy d e
comes_by c d h (run.Profile f) is = h.profile f is
comes_by c d h (run.Read f) is = h.recording f is
comes_by c d h (run.Cut k f) is = h.file k f is
comes_by c d h run.TooLong is = h.too_long is
comes_by c d h run.NoPlace is = h.no_place is
comes_by c d h run.Device is = h.device is
comes_by c d h run.Memory is = h.memory is
comes_by c d h run.BadWord is = is
comes_by c d h run.Usage is = is
comes_by c d h run.OldFiles is = is
comes_by c d h (run.Map f) is = is
comes_by c d h (run.Export f) is = is
