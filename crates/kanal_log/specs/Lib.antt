pub mod Shares
pub mod Views
pub mod Logs
