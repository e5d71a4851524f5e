-- What models stand for in the definitions of their meaning, and their texts
pub mod Views
pub mod Written
pub mod ModelText
pub mod Printed
