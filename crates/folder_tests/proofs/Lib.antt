pub mod ToldFolderLemmas
