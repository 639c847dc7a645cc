mod EventWords
mod TextsRead
mod LinesWritten
pub mod Told
mod Drawn
mod ExampleRead
mod Settled
pub mod Endings
pub mod Completing
pub mod Counting
pub mod ServingEndings
pub mod RefusalLines
