pub mod WhatIsLeft
pub mod ItemValues
pub mod ListsOver
pub mod RunsInOrder
pub mod SweptMembers
pub mod LookedThrough
pub mod Places
