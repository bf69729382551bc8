pub mod Census
pub mod Private
