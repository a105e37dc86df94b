-- How the words of the workspace hold a state of the flat machine, and what a move keeps and tells.
pub mod Layout
pub mod Ready
