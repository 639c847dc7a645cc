mod Pieces
mod Sending
mod SentAndReceived
