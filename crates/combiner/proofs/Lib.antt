mod Placed
mod Claims
mod Counts
mod Replies
mod Single
