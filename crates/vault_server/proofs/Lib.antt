mod Sessions
mod Begun
mod Stops
mod Missing
