pub mod Rising
pub mod Laws
pub mod Looking
pub mod Repeated
pub mod Lawful
pub mod Listed
pub mod Thresholding
pub mod Lasts
