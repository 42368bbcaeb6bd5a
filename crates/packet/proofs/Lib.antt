mod Bytes
mod Words
mod Rights
mod Tables
mod Colours
mod Remarks
mod Exits
mod Receiving
