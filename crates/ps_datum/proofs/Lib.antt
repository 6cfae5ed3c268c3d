pub mod Trees
pub mod TextsComeByParts
