pub mod VrLaws
pub mod KindsLaws
