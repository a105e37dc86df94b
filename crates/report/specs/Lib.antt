-- What a reader of the report must believe: what an input says, and what a call writes and leaves; the lines are those of crate `lines`.
pub mod Input
pub mod Report
pub mod Examples
