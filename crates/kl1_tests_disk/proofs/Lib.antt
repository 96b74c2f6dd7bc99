pub mod Growings
