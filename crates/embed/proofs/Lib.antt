pub mod Steps
mod There
mod Lending
mod LendingBoth
mod Calling
mod Putting
mod Giving
