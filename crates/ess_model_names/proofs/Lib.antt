-- Names bound around a place
pub mod ScopeLaws
-- Trees made one by one
pub mod Before
pub mod Loops
pub mod ToldLoops
pub mod ToldItems
