-- Flat trees and rules of comprehensions in order
pub mod FlatOrdered
-- Flat trees and rules of counted sources
pub mod FlatNumbered
