pub mod FileHeader
pub mod RecordHeader
pub mod Headers
