pub mod RoundTripHolds
