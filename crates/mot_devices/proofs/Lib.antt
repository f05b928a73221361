mod Cut
mod Holders
mod Looks
mod ReadsOn
mod Rows
mod Uses
