-- Laws of the crate `wellember`.
pub mod HostLaws
