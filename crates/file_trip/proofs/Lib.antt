pub mod PlaneTrip
pub mod FileTripHolds
