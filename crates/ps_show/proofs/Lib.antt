pub mod PagesAreJoined
pub mod PartsHaveBrackets
pub mod TypesAreWritten
pub mod LocalsAreMet
pub mod LinesAreWritten
