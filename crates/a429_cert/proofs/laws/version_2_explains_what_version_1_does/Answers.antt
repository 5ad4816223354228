use Rattle.a429_cert.proofs.VersionFacts.{upgraded}
use Rattle.a429_cert.proofs.laws.version_2_explains_what_version_1_does.Goals as goal

pub returns : goal.returns
returns c = record {
  same = λ p rest e. (upgraded p rest e.items e.first e.steps e.explains).0;
  kept = λ p rest e. (upgraded p rest e.items e.first e.steps e.explains).1;
}
