pub mod Response
pub mod ResponseLaws
pub mod HeardLook
pub mod Told
