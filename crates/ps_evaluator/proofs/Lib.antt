mod Steps
mod Joins
mod LocalsAreInTheState
mod TextsAreTold
mod KindsFit
mod Performs
mod Entering
