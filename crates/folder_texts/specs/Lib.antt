pub mod FolderTexts
