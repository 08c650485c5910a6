pub mod Zeros
pub mod Sweeps
pub mod Withdrawals
pub mod Worked
