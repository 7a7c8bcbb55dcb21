pub mod Verdict
pub mod Formula
pub mod Call
pub mod FormulaOf
pub mod Checked
