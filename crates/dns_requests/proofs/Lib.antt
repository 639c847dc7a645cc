pub mod Replies
pub mod MoreArrivals
pub mod Going
