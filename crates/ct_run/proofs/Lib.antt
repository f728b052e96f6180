pub mod Base
mod Reported
mod Parts
mod CertificateFits
mod Refused
mod ReducedTexts
mod Meaning
