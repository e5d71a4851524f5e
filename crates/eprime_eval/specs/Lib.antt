-- What the contracts of evaluation say beside the definitions of meaning
pub mod KnownTables
pub mod Environments
pub mod ClosedDomains
pub mod MemberViews
pub mod Items
pub mod Operating
pub mod DomainsOf
pub mod UnderTables
