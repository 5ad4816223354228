pub mod Block
pub mod Bounded
pub mod Budget
pub mod Choice
pub mod Fill
pub mod FreeBits
pub mod Order
pub mod Pair
