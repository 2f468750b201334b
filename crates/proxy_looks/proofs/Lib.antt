pub mod OneMore
pub mod Told
pub mod Askable
pub mod OneUrl
pub mod Texts
