pub mod OneTree
pub mod ReadInode
pub mod FreshBits
pub mod FreshBytes
pub mod FreshFiles
pub mod FreshInodes
pub mod BitmapBytes
pub mod Local
pub mod Frame
pub mod Spelled
pub mod Fits
pub mod Written
pub mod WrittenBytes
pub mod Mapped
pub mod Used
pub mod FreshHomes
pub mod Respelled
pub mod ZeroWords
mod ZeroParts
pub mod ReadBytes
pub mod Refused
pub mod SlotBytes
mod NamedSlot
pub mod NumbersBytes
pub mod SuperBytes
pub mod OneGeometry
pub mod Versions
pub mod NewestVersion
pub mod AllNumbers
pub mod Pieces
pub mod NumbersIn
pub mod FileNumbers
pub mod ChangedNumbers
pub mod OnGrid
pub mod Holding
pub mod CountedAt
-- What is proved below of numbers, for the crates above.
pub use Rattle.objects.proofs.NumbersAt
