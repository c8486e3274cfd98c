-- `Unique`, `UniqueReads` and `UniqueWrites`: each exported contract has one answer. `Demands`: demands 1 and 3, of the functions that are lent room; `Told` serves it.
-- `RoundTrips` and `ExportedTrips`: demand 2, what is written reads back, and what reads is written again; `TripLaws` and `BlockLaws` serve them.
-- `CallTrips` and `CallExported`: the same of calls (W-201). `Cut`: a cut stream is never taken for a whole one (W-212); `CutLaws` serves it.
pub mod Unique
pub mod UniqueReads
pub mod UniqueWrites
pub mod Told
pub mod Demands
pub mod TripLaws
pub mod BlockLaws
pub mod RoundTrips
pub mod ExportedTrips
pub mod CallTrips
pub mod CallExported
pub mod CutLaws
pub mod Cut
