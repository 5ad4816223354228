pub mod Input
pub mod Buffers
pub mod Verdict
pub mod Refusal
pub mod Make
pub mod Show
