-- Names: reserved ones, what stands in their place over tables, and printed ones
pub mod ToldApart
pub mod Shown
pub mod StandsFor
pub mod Printed
-- Models
pub mod IsBuiltFrom
pub mod RulesComeFrom
-- What is proved
pub mod TreeLaws
pub mod Laws
