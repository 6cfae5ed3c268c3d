pub mod FormsSettle
pub mod IdentifiersAreFound
pub mod Items
pub mod NamesAreOpened
pub mod NestingIsTested
pub mod OneUse
pub mod SizesAdd
