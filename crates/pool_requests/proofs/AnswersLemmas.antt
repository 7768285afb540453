pub mod Puts
pub mod OneProcedure
