pub mod Jobs
pub mod SavedJobs
pub mod Private
