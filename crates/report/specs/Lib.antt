-- The report of an image and a list, and what its lines show.
pub mod Report
pub mod Shown
