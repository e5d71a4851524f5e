-- What is wanted of parts of a tree where views are seen
pub mod Seen
-- What views and selections offer
pub mod GivenOffers
