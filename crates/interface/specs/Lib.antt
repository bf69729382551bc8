pub mod Interface
pub mod HandedOver
