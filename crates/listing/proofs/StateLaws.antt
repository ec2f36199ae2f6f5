-- What a step leaves, case by case of the writer's answer. Assumes nothing.
use mathlib.Core.Path.{◌≡◌, refl, subst}
use Prim.Native.Nat.{ℕ, ◌+◌, ◌≤◌, ◌<◌}
use borrow.Author.Tests.{lt-ltb, le-ltb, ne_eqb}
use Rattle.calls.specs.Lists.{gives}
use Rattle.level.specs.Level.{Memory}
use Rattle.writer.specs.Calls.{finish_reply, finish_store}
use Rattle.writer.specs.declared.Writer.{Writer}
use Rattle.listing.specs.States.{State, Leaves, draw_state, finish_state}
use Rattle.listing.specs.States.{listed, value_part, advance_state}
use Rattle.pgm.specs.declared.input.Input.{Input}
use Rattle.listing.specs.declared.line.Line.{Line}
use Rattle.listing.specs.declared.listing.Listing.{Listing}

module _ (n k : ℕ) (i : Input) (w : Writer) (x z : Memory) where
  pub closed : (u : Writer) (m : ℕ) (x₁ : Memory) (l : Listing) {x' z' : Memory} → gives u ≡ finish_reply w n x → m ≡ n → x₁ ≡ finish_store w n x
      → Leaves (draw_state m k i u x₁ z) l x' z' → Leaves (finish_state n k i w x z) l x' z'
  unfolding finish_state
  closed u m x₁ l {x'} {z'} e em ex p =
      rw (← e) (subst (λ y. Leaves (draw_state n k i u y z) l x' z') ex (subst (λ y. Leaves (draw_state y k i u x₁ z) l x' z') em p))

-- ---- a part written whole
module _ (n k : ℕ) (s : State) (l : Listing) where
  abbrev line : Line
  line = s.listing.line

  pub past_value : 3 ≤ line.part → (line.part ≡ 3 → ⊥) → line.value < line.length
      → l ≡ listed s.listing.input s.listing.writer (value_part line (line.value + 1))
      → Leaves (advance_state n k s) l s.store s.row
  unfolding advance_state
  past_value g d h e =
      rw (le-ltb line.part 3 g, ne_eqb line.part 3 d, lt-ltb line.value line.length h) (record { listing = e; store = refl; row = refl })
  -- ---- the end
