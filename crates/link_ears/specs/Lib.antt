pub mod Ear
pub mod ListEar
