pub mod ListLaws
pub mod RuleLaws
pub mod Runs
pub mod Ways
