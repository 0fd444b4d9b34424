mod Lists
mod Emptying
mod Shortening
mod Loading
mod Planning
mod Removing
mod Running
