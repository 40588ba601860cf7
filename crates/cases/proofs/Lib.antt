-- The cases of the rules, computed by the definitions: those that the rules mark P, cases beyond them, five taken through the third
-- demand, and wrong checkers that it rules out; what a TLB remembers of sections and of domains, and where the root changes.
pub mod Across
pub mod DomainCases
pub mod DomainWitness
pub mod Domains
pub mod FetchCases
pub mod FetchWitness
pub mod GlobalCases
pub mod GlobalWitness
pub mod OldEntry
pub mod PaperCases
pub mod QuietCases
pub mod RootChanges
pub mod RootWitness
pub mod Sections
pub mod SplitCases
pub mod WiderCases
pub mod Witness
pub mod WrongCheckers
