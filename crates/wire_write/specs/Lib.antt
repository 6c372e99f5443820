pub mod Put
