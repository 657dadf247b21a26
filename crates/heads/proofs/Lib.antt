-- Laws of the heads, over the lists that they stand for.
pub mod CheckLaws
pub mod MoveLaws
pub mod Fours
pub mod RestLaws
pub mod LoadLaws
pub mod TurnLaws
