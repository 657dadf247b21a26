-- When a layout can be written.
pub mod Ready
