pub mod ListsGoOn
pub mod WalkGoesOnAsMeant
pub mod CopiesAreOfTheSeen
pub mod TablesTellDefinitions
