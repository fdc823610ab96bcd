pub mod NameTexts
pub mod OneName
pub mod Grown
pub mod CallPlaces
pub mod JournalSeat
pub mod Once
pub mod NoTwice
pub mod ReplyKinds
pub mod Rings
pub mod NonceCalls
pub mod NonceRings
pub mod NonceUses
pub mod ExchangeCalls
pub mod ExchangeRings
pub mod Shards
mod Rows
