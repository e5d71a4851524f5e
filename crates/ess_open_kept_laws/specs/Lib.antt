-- Sources at the first generator that isn't plain
pub mod OpenedAsks
-- All these rules
pub mod OpenAsks
