pub mod EditLaws
pub mod HintLaws
pub mod Numerals
pub mod ReadTexts
