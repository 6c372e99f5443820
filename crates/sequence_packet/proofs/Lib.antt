pub mod Told
mod Ways
