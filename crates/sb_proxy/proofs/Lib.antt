pub mod Fronts
mod FewLists
