pub mod Few
pub mod Found
pub mod Placed
pub mod Rising
pub mod InnerCosts
