mod Gone
mod Listing
mod Steps
mod Copying
mod Committing
mod Claimed
mod Stopping
