-- Parts with positions
pub mod Placed
-- Parts with types
pub mod Typed
