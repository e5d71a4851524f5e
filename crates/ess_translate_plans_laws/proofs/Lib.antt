pub mod FreeBySets
pub mod Avoided
pub mod RightRequests
pub mod InOrder
mod ExamplesRequests
