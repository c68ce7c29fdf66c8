pub mod ToldFolder
