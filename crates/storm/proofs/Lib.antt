mod Stormed
mod Playing
