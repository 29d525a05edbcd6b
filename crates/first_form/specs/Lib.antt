pub mod Outcomes
pub mod Form
pub mod Program
pub mod FirstForm
pub mod Machine
pub mod Does
pub mod Faults
pub mod Runs
