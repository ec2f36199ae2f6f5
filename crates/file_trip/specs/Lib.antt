pub mod FileTrip
