-- Laws of what is asked of a base, and of the run that it is given to.
pub mod NamedLaws
pub mod JudgeLaws
pub mod RightLaws
pub mod GateLaws
