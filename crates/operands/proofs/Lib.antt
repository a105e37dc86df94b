-- Laws about simple operands.
pub mod Leading
pub mod Operands
