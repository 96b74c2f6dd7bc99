pub mod Counts
pub mod Files
pub mod StartupErrors
