pub mod KeptCommitLemmas
mod MembersLemmas
pub mod ReadBackLemmas
pub mod TextLemmas
