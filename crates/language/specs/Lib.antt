-- What a reader of this crate must believe: the job language, the check of the input, the answers of the three machines, what every stop tells,
-- demand 3 about the answers and that their stops agree, what their depth assures, the house default, the span and work of a value, and the settled runs.
pub mod Language
pub mod Places
pub mod Checks
pub mod Unchanged
pub mod Admitted
pub mod Answers
pub mod Stops
pub mod Claim
pub mod Depth
pub mod House
pub mod Values
pub mod Settled
pub mod Examples
pub mod ExampleStops
pub mod ExampleDepths
pub mod ExampleAgreement
pub mod ExampleRefusals
