pub mod Found
mod SuitWays
