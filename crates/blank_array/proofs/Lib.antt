mod Blanks
mod Making
mod Created
