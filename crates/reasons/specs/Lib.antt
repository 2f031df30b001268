pub mod Certificates
pub mod CertificateText
pub mod CertificateReading
pub mod Shown
pub mod working
