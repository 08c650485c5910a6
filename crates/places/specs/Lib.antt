pub mod Places
pub mod Open
