pub mod Laws
mod BookWays
pub mod Told
