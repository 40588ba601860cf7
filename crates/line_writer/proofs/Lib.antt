-- Laws of writing lines, and the front of the buffer.
pub mod Laws
pub mod Front
