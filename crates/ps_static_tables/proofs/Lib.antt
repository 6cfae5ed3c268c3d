pub mod Lists
pub mod TablesTellFirst
pub mod TextsAreTold
