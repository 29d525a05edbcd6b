pub mod Header
pub mod Folders
pub mod ManifestBytes
pub mod Changes
pub mod Outcomes
pub mod Manifests
pub mod Making
