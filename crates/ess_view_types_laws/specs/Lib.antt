-- Views have values of the types of their domains
pub mod ViewTypes
