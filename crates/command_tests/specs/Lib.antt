pub mod MemoryDesk
