-- Views of judged domains, and what views of sets offer
pub mod JudgedItems
-- What rules of views of sets have at hand
pub mod SetsAtHand
