mod SameWords
mod Endings
