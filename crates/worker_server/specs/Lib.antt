pub mod Calls
pub mod ServedConnection
pub mod HeldInput
pub mod RequestSteps
