-- What a free move writes of the cost graph.
pub mod Marks
