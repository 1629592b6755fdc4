mod Chosen
mod Reading
