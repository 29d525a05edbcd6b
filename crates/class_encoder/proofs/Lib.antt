pub mod Named
pub mod AttributesAgain
pub mod CodesAgain
pub mod MembersAgain
pub mod EncodedSpelled
