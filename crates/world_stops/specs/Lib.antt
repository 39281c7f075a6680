pub mod Origins
pub mod Stopping
pub mod World
pub mod WorldCuts
pub mod WorldLaws
pub mod WorldNets
