-- What is right, from the scope document (01): its words as definitions, each under the sentence that it states.
pub mod Numbers
pub mod Rows
pub mod Merge
pub mod Streams
pub mod Overlap
pub mod Pull
pub mod Bases
pub mod Offered
pub mod Offer
pub mod Start
pub mod Call
pub mod Job
pub mod Promise
pub mod Skip
pub mod Demands
pub mod Cases
