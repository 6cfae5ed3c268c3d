pub mod FoldsAreRelated
pub mod FoldsByNode
pub mod NumbersStandInLists
pub mod ReadingsKeepRelations
pub mod PartsAreSound
pub mod EachNumberHasOneAnswer
pub mod BodiesNameWhatTheyMay
pub mod ValidKindsAreFilled
pub mod CasesMeasureAlike
pub mod LabelsDiffer
pub mod StepsOfANode
pub mod FlagsTellOnce
pub mod TableTellsScopes
pub mod WalkGoesOn
pub mod MembersAreStored
pub mod StepsReadMarks
pub mod WalkTellsRules
mod ExampleByHand
