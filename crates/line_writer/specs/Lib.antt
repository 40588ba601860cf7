-- What a call that writes the lines of an image gives.
pub mod Call
