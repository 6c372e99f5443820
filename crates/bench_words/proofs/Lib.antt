mod HexLaws
mod NumberLaws
pub mod SayLaws
mod WordLaws
