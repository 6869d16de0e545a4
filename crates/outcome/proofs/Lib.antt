pub mod SampleTable
pub mod OutcomeLaws
