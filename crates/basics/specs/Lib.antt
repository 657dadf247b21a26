-- Lists and tests that the other crates' definitions speak of.
pub mod Lists
pub mod Lex
pub mod Build
