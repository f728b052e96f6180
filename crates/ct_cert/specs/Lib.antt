pub mod Testing
pub mod Certificates
pub mod Arithmetic
pub mod Freedom
pub mod Tests
