pub mod OtherNumbersFitNoRow
pub mod QuietRowsShowNothing
pub mod NothingIsAdded
pub mod LooksChangeNothing
pub mod LooksAreTheRows
pub mod WhatIsReadIsAPlace
pub mod ChangesAreTheRows
pub mod MakesAreTheRows
pub mod PerformsTheRow
mod DivisionsAreRounded
mod ShiftsRoundDown
mod BitsAreDigits
mod RowsActOnBits
pub mod FieldsAreFilled
pub mod ValuesAreCollected
pub mod RecordsAreTheRows
pub mod CellsAreCounted
pub mod OperandsAreNatural
pub mod ActsAreNatural
pub mod RecordsAreNatural
pub mod RowsAreNatural
pub mod TextsAreLong
pub mod OthersAskForNone
pub mod OtherSchemesAreOfSorts
