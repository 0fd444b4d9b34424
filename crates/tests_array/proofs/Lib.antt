mod Adopted
mod Written
