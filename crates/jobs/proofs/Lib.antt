pub mod Cases
pub mod Jobs
pub mod SavedJobs
