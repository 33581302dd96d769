pub mod JsxTexts
pub mod Marks
