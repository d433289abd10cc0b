-- What the program `qr` writes.
pub mod Response
