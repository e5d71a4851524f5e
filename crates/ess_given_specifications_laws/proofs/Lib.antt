pub mod JudgedOrder
pub mod ShownOrder
pub mod SpecificationsStayGiven
mod ExamplesOrder
