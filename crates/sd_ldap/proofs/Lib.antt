pub mod Loops
pub mod Runs
pub mod Levels
pub mod Again
pub mod FilterAgain
pub mod MessageAgain
pub mod Sizes
pub mod Cuts
