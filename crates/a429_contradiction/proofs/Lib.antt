pub mod AttemptWordsFacts
pub mod SoFarFacts
pub mod ContradictionFacts
pub mod AgainstFacts
pub mod RivalFacts
