-- Where rows stand.
pub mod Ranges
