pub mod ShownGiven
pub mod BoundFixed
pub mod FreeFixed
pub mod JudgedDomains
pub mod JudgedGiven
pub mod SpecificationsGiven
