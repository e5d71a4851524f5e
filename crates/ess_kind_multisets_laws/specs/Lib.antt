-- What rules of views of multisets have at hand
pub mod MultisetsAtHand
