pub mod BoundsCounted
pub mod ListedCounted
pub mod NumbersCounted
mod ExamplesThere
