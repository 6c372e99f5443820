pub mod Wire
pub mod Tests
pub mod Parts
pub mod Answer
