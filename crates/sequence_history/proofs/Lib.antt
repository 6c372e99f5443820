pub mod Record
pub mod Table
pub mod Ways
mod Calls
pub mod Runs
pub mod Keys
pub mod Rises
