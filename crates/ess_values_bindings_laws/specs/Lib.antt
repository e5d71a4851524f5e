-- Rules over bindings that keep values
pub mod BindingsKeepValues
