pub mod Response
pub mod ResponseLaws
pub mod PlaceWish
pub mod KeptFetches
pub mod HeardFind
