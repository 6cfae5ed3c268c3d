pub mod SearchesFindTheLeast
pub mod DifferentMembersCount
pub mod TextsComeByParts
pub mod NotedVariablesAreNumbered
pub mod TypesAreTerms
pub mod SubstitutionsCompose
pub mod InstancesAreNoSmaller
