pub mod Desk
pub mod View
pub mod Sound
pub mod Turns
