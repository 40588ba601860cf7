-- Which bytes the walks of now use, whether a store touches them, a step for runs that notes no more than it has to, what is said of it, and where a list may be cut.
pub mod Used
pub mod Quiet
pub mod Step
pub mod Noted
pub mod Same
pub mod Cuts
