pub mod Answer
pub mod Check
pub mod Fields
pub mod JsonText
pub mod IdText
