pub mod FixedSizes
pub mod SeenParts
pub mod PartsOfViews
pub mod PartsOfPicks
pub mod PartsOfLookups
pub mod FixedOrder
pub mod OrderOfViews
pub mod OrderOfPicks
pub mod OrderOfLookups
pub mod GivenOffers
mod ExamplesOffers
