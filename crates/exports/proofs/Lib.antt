-- Laws of the reports.
mod Reported
