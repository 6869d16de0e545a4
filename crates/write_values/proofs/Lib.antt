pub mod ElementLaws
pub mod FillerLaws
pub mod Cases
