pub mod KindsAreFilled
