pub mod Commented
pub mod Driving
pub mod Serving
pub mod Showing
pub mod Lasting
