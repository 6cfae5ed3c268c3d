pub mod UnitsTranslateTexts
pub mod WrittenThenFlushed
