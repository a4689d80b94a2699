pub mod Kinds
pub mod Lexemes
pub mod Tokens
