-- Laws of the definitions: turn by turn over the records, the base parts, and that a layout reads back as the fragments.
pub mod Rows
pub mod Bases
pub mod Reading
