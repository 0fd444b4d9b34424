mod Lists
mod Greatest
