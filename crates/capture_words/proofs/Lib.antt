mod Decimal
mod Examples
mod Ways
