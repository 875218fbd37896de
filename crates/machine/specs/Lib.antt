pub mod Lent
pub mod Machine
pub mod Kept
pub mod Demand1
pub mod Numbers
pub mod Session
pub mod Equal
pub mod Capped
