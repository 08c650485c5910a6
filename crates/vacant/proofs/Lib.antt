pub mod Vacants
