-- Rules that keep values at their root
pub mod RulesKeepValues
