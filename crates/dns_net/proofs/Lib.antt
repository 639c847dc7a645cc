mod Cuts
mod Numerals
mod Fetching
mod Faultless
mod LetIn
mod Reading
