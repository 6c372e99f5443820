pub mod Transforms
