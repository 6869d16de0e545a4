pub mod FatesLaws
