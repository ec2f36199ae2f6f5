use mathlib.Core.Path.{◌≡◌, subst}
use Prim.Native.Nat.{ℕ, ◌+◌, ◌*◌, ◌/◌, ◌<◌, ◌≤◌}
use native.Mathlib.Omega.{arith}
use lib.ListN.{length}
use Rattle.profile.specs.Calls.{heights}
use Rattle.profile.proofs.TurnLaws.{Turned, begun, turn, end}
use Rattle.profile.proofs.pairs.one_pass.Goals as goal

pub loop-k-init : goal.loop-k-init
loop-k-init c =
    begun (length c.args.row.now) (heights c.args.row.now) c.args.out.now c.requires.0 c.requires.1 c.open-s.ensures

pub height-requires : goal.height-requires
height-requires c = omega (arith, c.saturating_sub-turns.ensures)

pub height-requires-in-loop-k : goal.height-requires-in-loop-k
height-requires-in-loop-k c = omega (arith, c.saturating_sub-turns.ensures)

pub store_pair-requires : goal.store_pair-requires
store_pair-requires c = let i = c.loop-k.invariant in omega (arith, i.inside, i.room, i.filled.size)

pub loop-k-preserved : goal.loop-k-preserved
loop-k-preserved c =
    let k = c.loop-k.k in
    let far : 2 * k + 4 < length c.args.row.now = omega (arith, c.saturating_sub-turns.ensures) in
    let next : 2 * (k + 1) ≡ 2 * k + 2 = omega arith in
    rw next
    (turn _ _ _ c.loop-k.invariant far c.height.ensures c.height-in-loop-k.ensures c.turn-t.ensures c.lift_fourth.ensures c.store_pair.ensures)

pub turn_at-t-requires : goal.turn_at-t-requires
turn_at-t-requires c = omega (arith, c.saturating_sub-turns.ensures, c.loop-k.invariant.inside)

pub store_pair-requires-2 : goal.store_pair-requires-2
store_pair-requires-2 c =
    let i = c.loop-k.invariant in
    omega (arith, c.saturating_sub-turns.ensures, i.inside, i.room, i.filled.size)

pub close-requires : goal.close-requires
close-requires c =
    let i = c.loop-k.invariant in
    (omega (arith, i.inside), omega (arith, i.room, i.filled.size, c.store_pair-2.auto.out))

pub returns : goal.returns
returns c =
    let m = c.saturating_sub-turns.result in
    let last : 2 * c.loop-k.k ≡ 2 * (m / 2) = omega arith in
    let i = c.loop-k.invariant in
    let all : length c.args.row.now ≤ 2 * (m / 2) + 4 = omega (arith, c.saturating_sub-turns.ensures) in
    end _ _ _ (subst (λ (p : ℕ). Turned (length c.args.row.now) (heights c.args.row.now) c.args.out.now p c.loop-k.s c.loop-k.out) last i) all
    c.turn_at-t.ensures c.lift_fourth-2.ensures c.store_pair-2.ensures c.close.ensures
