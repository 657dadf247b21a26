-- What the functions of this program keep to.
pub mod Order
