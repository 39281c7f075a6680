-- What `play_report` has, passed on to the crates above.
pub use Rattle.play_report.specs.Answers
pub use Rattle.play_report.specs.Reports
pub use Rattle.play_report.specs.Results
pub use Rattle.play_report.specs.declared.expecting.Difference
