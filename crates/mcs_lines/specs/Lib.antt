pub mod Words
pub mod Requests
pub mod RefusalNumbers
pub mod ProbeWords
pub mod LineRequests
pub mod ReadNumbers
