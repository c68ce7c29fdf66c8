pub mod Shelf
pub mod Store
pub mod StoreView
pub mod Steps
pub mod KindRead
pub mod MemoryShelf
pub mod OddShelf
pub mod FuseShelf
