-- Laws of the ring: where its numbers stand, what waits in it, and a file for each operation.
pub mod Places
pub mod Waiting
pub mod Pushing
pub mod Clearing
pub mod Scanning
pub mod Alike
pub mod Calls
