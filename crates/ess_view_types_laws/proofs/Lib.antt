pub mod ViewTypes
