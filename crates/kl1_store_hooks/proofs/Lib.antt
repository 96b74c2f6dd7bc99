pub mod Hooked
