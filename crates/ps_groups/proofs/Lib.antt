pub mod ListsByPlace
pub mod SearchesGoOn
pub mod StartsAreCut
pub mod SearchesTurn
pub mod PartsBecomeGroups
pub mod TurnsLeaveLess
pub mod SearchesEnd
