pub mod Steps
pub mod Records
pub mod Offices
pub mod Books
pub mod Desks
pub mod Infos
pub mod Choice
pub mod Laws
