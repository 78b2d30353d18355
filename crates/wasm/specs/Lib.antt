pub mod ReportedNumbers
