pub mod Forecast
pub mod Probes
