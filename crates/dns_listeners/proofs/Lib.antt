mod Loops
mod Crews
mod Served
mod ServeEndings
mod RunEndings
