pub mod InsideCode
