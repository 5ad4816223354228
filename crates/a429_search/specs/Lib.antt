pub mod Standing
pub mod Recorded
pub mod Deciding
pub mod Frontier
