pub mod PicksThere
pub mod LookupsCounted
pub mod PicksCounted
pub mod PlainBindings
pub mod OfferedSources
pub mod OpenedCounted
pub mod InOrderCounted
pub mod OpensCounted
mod ExamplesPicks
