pub mod RecordLaws
mod Ways
