-- What statements enter, one part after the other
pub mod Entered
