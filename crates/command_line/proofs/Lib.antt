mod Asked
mod Commands
mod Given
mod Lists
mod Numbers
