-- Laws of the sheet's places and of its text, and the sheet by hand.
pub mod Places
pub mod Text
pub mod Cases
