-- Trees each part of which has a value
pub mod Valued
-- Such values along chains, and what follows
pub mod ValuesAlong
