-- What the headers of the code stand for
pub mod Views
