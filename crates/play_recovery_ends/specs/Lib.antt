pub mod Endings
pub mod PlayScripts
