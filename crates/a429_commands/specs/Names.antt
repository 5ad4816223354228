-- Which names a command may have: what it writes to has a name, and is spelled unlike each name that it reads; another spelling of it, or a file inside DIR, is not seen (profile).
use Rattle.std.specs.Prelude.{◌≢◌, ℕ, List, [], ⊤}
use Rattle.a429_commands.specs.declared.command_line.commands.Claim.{Claim}
use Rattle.a429_commands.specs.declared.command_line.commands.Command.{Command}
use Rattle.a429_commands.specs.declared.command_line.commands.Command.TheVariants as command

-- a name to write to, beside one that is read: it is not empty, and another one
abbrev pub MayWrite : List ℕ → List ℕ → Type 0
MayWrite name read = (name ≢ []) × (name ≢ read)

-- the certificate is written, the profile and the recording are read
abbrev pub IsCertificateApart : Claim → Type 0
IsCertificateApart c = MayWrite c.certificate.now c.profile.now × MayWrite c.certificate.now c.recording.now

-- where a command writes to a name of its arguments, that is not empty, and written like no name of what it reads
abbrev pub KeepsInputs : Command → Type 0
KeepsInputs (command.Check c) = IsCertificateApart c
KeepsInputs (command.Decide c) = IsCertificateApart c
KeepsInputs (command.Extract c folder) = MayWrite folder.now c.profile.now × MayWrite folder.now c.recording.now × MayWrite folder.now c.certificate.now
KeepsInputs (command.Cut profile recording folder most) = MayWrite folder.now profile.now × MayWrite folder.now recording.now
KeepsInputs (command.History f) = MayWrite f.folder.now f.profile.now × MayWrite f.folder.now f.recording.now
KeepsInputs (command.Side profile recording side new_rec) = MayWrite new_rec.now profile.now × MayWrite new_rec.now recording.now
KeepsInputs (command.Import map export new_rec) = MayWrite new_rec.now map.now × MayWrite new_rec.now export.now
KeepsInputs (command.Upgrade cert new_cert) = MayWrite new_cert.now cert.now
KeepsInputs _ = ⊤
