pub mod Ascents
pub mod Changes
pub mod Lists
pub mod Marks
