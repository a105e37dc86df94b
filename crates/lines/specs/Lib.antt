-- What a reader of the lines must believe; `Buffer` is what the functions that write them tell.
pub mod Lines
pub mod Examples
pub mod Buffer
