mod Given
mod Steps
