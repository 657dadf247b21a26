-- The queue's definitions: the ring as a list, and what each operation says of that list.
pub mod Ring
pub mod Answered
pub mod Deeds
