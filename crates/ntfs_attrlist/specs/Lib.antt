pub mod Layout
pub mod Entry
pub mod AttributeList
pub mod Reading
pub mod Views
