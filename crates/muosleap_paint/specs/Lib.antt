pub mod PaintTag
pub mod PaintSheet
