-- Names of values
pub mod ValueNames
-- Laws
pub mod Laws
