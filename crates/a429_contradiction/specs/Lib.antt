pub mod SoFar
pub mod Contradiction
pub mod Against
pub mod Rival
