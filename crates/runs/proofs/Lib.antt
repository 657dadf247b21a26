-- What a run stands for, and what a start leaves.
pub mod MarkLaws
pub mod Flat
pub mod ViewLaws
pub mod Starting
pub mod StartLaws
