pub mod Items
pub mod Forms
pub mod Commands
pub mod Parsers
