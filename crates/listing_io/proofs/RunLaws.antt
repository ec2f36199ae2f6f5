-- The program's own run put together. Assumes nothing.
use mathlib.Core.Path.{◌≡◌, subst}
use mathlib.Core.Bool.{Bool}
use native.Mathlib.Omega.{arith}
use Rattle.level.specs.Level.{Memory}
use Rattle.pgm.specs.Limits.{max_picture_width}
use Rattle.listing.specs.States.{map_store, state_of, started, end_state}
use Rattle.listing.specs.declared.listing.Listing.{Listing}
use Rattle.rounds.specs.Rounds.{Answers}
use Rattle.listing_io.specs.Listed.{listing_machine, Listed}

pub listed-is : {l : Listing} {x z : Memory} {b : Bool} → l ≡ started
    → Answers (listing_machine map_store max_picture_width) 65536 (end_state map_store max_picture_width) (state_of l x z) b → Listed b
listed-is {l} {x} {z} {b} e g = record {
  x = x;
  z = z;
  A = 65536;
  area = omega arith;
  answers = subst (λ y. Answers (listing_machine map_store max_picture_width) 65536 (end_state map_store max_picture_width) (state_of y x z) b) e g;
}
