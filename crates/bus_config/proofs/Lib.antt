mod TableKeys
mod RowLists
mod TwoBytes
mod Uids
mod RouteRows
mod NodeRows
mod BusReadings
mod Documents
mod Sending
mod Again
mod Machine
pub mod Named
pub mod CallerLemmas
