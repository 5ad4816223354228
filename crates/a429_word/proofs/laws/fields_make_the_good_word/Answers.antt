use Rattle.a429_word.proofs.WordMade.{same_from_fields}
use Rattle.a429_word.proofs.laws.fields_make_the_good_word.Goals as goal

pub returns : goal.returns
returns c = λ v w hv hw odd_v odd_w h. same_from_fields v w hv hw odd_v odd_w h.label h.sdi h.field h.ssm
