-- The reference: what a reader has to believe of the machine.
pub mod Rules
pub mod Runs
