pub mod NodesInLists
pub mod WalksEndOnce
pub mod SeenIsReached
pub mod SeenIsClosed
pub mod SurvivorsAreOne
