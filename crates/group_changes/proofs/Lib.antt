mod Applying
mod Changing
mod Regrouping
mod Refusing
