pub mod WellBound
pub mod SoundParts
pub mod ProperDomains
pub mod Laws
