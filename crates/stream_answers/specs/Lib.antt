-- One stream's answer to a base.
pub mod Answer
