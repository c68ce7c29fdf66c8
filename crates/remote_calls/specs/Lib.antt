pub mod Sends
pub mod Exchange
pub mod HttpRemote
pub mod OrderReply
pub mod DeskRemote
pub mod Spelling
