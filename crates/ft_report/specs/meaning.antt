-- The text of a report and its status.
pub mod FaultText
pub mod Fitting
pub mod Report
pub mod States
pub mod Titles
pub mod Words
