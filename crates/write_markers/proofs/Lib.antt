pub mod WriteLaws
pub mod GainsLaws
pub mod StepLaws
pub mod PartLaws
pub mod PutLaws
