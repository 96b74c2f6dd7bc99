mod Parts
mod Pendings
mod Outcomes
mod Sides
mod OfTwo
