-- Words over what the first source offers
pub mod PartsOfOpenings
pub mod OrderOfOpenings
-- What is picked
pub mod PartsOfPicks
pub mod OrderOfPicks
-- What sources offer
pub mod SourcesGiven
-- Comprehensions in any place
pub mod PartsInOrder
pub mod OrderInPlace
pub mod DecidedPicks
pub mod PlaceGiven
pub mod PlaceOrder
-- Each rule
pub mod OpenedStays
pub mod OpenedOrder
