-- Views of containers, and the names that their listings take
pub mod Containers
-- What is picked at the innermost place, and whether that is left
pub mod InnermostPicks
-- The laws
pub mod Laws
