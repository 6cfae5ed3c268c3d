pub mod FieldsAreDefined
pub mod FormsAreNoted
