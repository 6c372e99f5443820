pub mod Laws
pub mod Known
pub mod Written
mod ProposalWays
