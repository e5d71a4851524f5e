-- Numbers of parts, and the domains of this family
pub mod PartNumbers
