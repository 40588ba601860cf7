-- The reader of lines, as bytes are fed to it.
pub mod Reading
