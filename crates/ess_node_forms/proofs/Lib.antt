pub mod RefinedNodes
pub mod RefinedGenerators
pub mod SimpleNodes
