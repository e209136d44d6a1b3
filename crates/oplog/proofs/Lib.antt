mod Ends
pub mod Export
mod Laying
mod Pushing
mod Rooms
