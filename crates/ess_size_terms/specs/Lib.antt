-- The forms of ranges that sizes ask for
pub mod RangeForms
