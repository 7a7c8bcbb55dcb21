pub mod LoopTurns
pub mod Ahead
pub mod Alone
pub mod AfterOperand
pub mod AfterPrimary
