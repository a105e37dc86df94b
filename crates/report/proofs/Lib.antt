-- What the proofs of the functions use.
mod Words
mod Telling
mod Examples
