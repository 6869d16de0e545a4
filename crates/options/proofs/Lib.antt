pub mod SignLaws
pub mod OptionsLaws
pub mod SettingsLaws
pub mod Cases
