pub mod ChosenReprs
pub mod ReadyHeaders
pub mod GivenPlans
pub mod GivenTables
pub mod ByPlans
pub mod Counts
pub mod Printable
pub mod Printed
mod ExamplesGiven
