mod Cases
mod Entries
mod Functions
mod Goes
mod Taken
mod Turns
