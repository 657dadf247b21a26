-- That the least head is the one that the merge takes next.
pub mod LeastLaws
