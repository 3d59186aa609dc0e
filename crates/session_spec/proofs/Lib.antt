pub mod Shapes
pub mod NumbersBack
pub mod OpeningBack
pub mod FormsBack
pub mod LinesBack
pub mod ShapedItems
pub mod ShapedText
pub mod WrittenRead
