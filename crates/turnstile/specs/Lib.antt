pub mod Lists
pub mod Rule
pub mod Laws
pub mod Steps
pub mod PassView
pub mod HeldTurn
