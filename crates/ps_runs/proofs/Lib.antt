pub mod WordsKeep
pub mod MoreCallsExtend
pub mod FewCallsAreSame
pub mod MoreCellsWiden
pub mod HiddenLocals
pub mod EndsAreUnseen
pub mod CellsComeFirst
