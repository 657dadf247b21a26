-- Laws of the calls, and what a host may rely on.
pub mod CallLaws
pub mod HostLaws
pub mod Hosting
