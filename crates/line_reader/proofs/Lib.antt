-- Laws of the reader, the end of the input, and the whole of it.
pub mod Laws
pub mod Front
pub mod Stored
pub mod Streams
