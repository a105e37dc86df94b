-- What a reader must believe: how the answers of the three machines, and the graphs that they write, are those of the published semantics.
pub mod Answers
pub mod Graphs
