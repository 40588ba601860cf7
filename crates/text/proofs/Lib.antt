-- Laws of text.
pub mod SplitLaws
pub mod HexLaws
pub mod HexPut
pub mod PutLaws
