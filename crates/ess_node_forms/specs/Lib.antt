pub mod RangedDomains
