pub mod Told
mod WhyWays
