-- What a reader must believe of a machine that is lent a buffer for its cost graph (02, P1): its answer with the number of words, and the buffer at exit
-- (Answers, Buffer). Beside that: what a buffer changes of an answer (AsWithout), how many words are enough (Enough), demand 3 with buffers (Claim), that
-- the words have the work and span reported (Reported), worked runs (Examples), and what code tells at the end (Fitted).
pub mod Answers
pub mod Buffer
pub mod AsWithout
pub mod Enough
pub mod Claim
pub mod Reported
pub mod Examples
pub mod Fitted
