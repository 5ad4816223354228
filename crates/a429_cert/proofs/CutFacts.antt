-- Lines that say something are not cut.
use Rattle.std.proofs.Common.{◌≡◌, ◌≤◌, ℕ, List, length, true, nat_le, Option, Some, None, refl, arith}
use Rattle.std.proofs.lemmas.Bool.Decides.{nat_tests}
use Rattle.a429_cert.specs.declared.line.CertLine.{CertLine}
use Rattle.a429_cert.specs.Line.{SpellsLine, Reads}
use Rattle.a429_cert.specs.CutLines.{cut}
use Rattle.a429_cert.specs.Fault.{SaysLine}
use Rattle.a429_cert.proofs.LineShape.{line-short}

spells-short : (text : List ℕ) (l : CertLine) → SpellsLine text l → length text ≤ 2287
spells-short text l s = rw s.spelled (line-short l s.line s.held)

pub read-short : (text : List ℕ) (l : CertLine) → Reads text (Some l) → length text ≤ 2287
read-short text l s = spells-short text l s

pub says-uncut : (line : Option (List ℕ)) (l : CertLine) → SaysLine line l → cut line ≡ line
says-uncut None l s = absurd s
says-uncut (Some text) l s =
    let short : nat_le (length text) 2287 ≡ true = grind (arith, nat_tests, spells-short text l s) in
    rw short refl
