use mathlib.Core.Path.{◌≡◌, refl, ◌∙◌}
use Prim.Native.Nat.{◌+◌}
use native.Mathlib.Omega.{arith}
use borrow.Author.Rules.{sfits_of}
use mir.Syntax.{w32}
use mir.ValLaws.{of_z_fits}
use Rattle.numbers.specs.Signal.{at}
use Rattle.wavelet.specs.Limits.{max_sample}
use Rattle.map_levels.specs.BackLines.{even_of, odd_of}
use Rattle.map_levels.proofs.SmallLaws.{bits_none, bits-read, bits-written, bits-over, bits-end}
use Rattle.map_levels.proofs.BackLineLaws.{pair-none, pair-more, even-bits, odd-bits, even-word, odd-word}
use Rattle.map_levels.proofs.back_lines.unlift_columns.Goals as goal

pub loop-k-init : goal.loop-k-init
loop-k-init c = (refl, pair-none _, bits_none _, bits_none _)

pub unlift_at-all-requires : goal.unlift_at-all-requires
unlift_at-all-requires c = (omega arith, omega (arith, c.loop-k.invariant.0))

pub loop-k-preserved : goal.loop-k-preserved
loop-k-preserved c =
    let lines = c.args.lines.now in
    let k = c.loop-k.k in
    let all = c.loop-k.all-bits in
    let inv = c.loop-k.invariant in
    let u = c.unlift_at-all in
    let kb = c.requires.0 in
    let fits = of_z_fits w32 u.result (sfits_of u.type_inv) in (
      u.auto.lines ∙ inv.0,
      pair-more k _ _ _ (omega arith) u.ensures.lines_after inv.1,
      bits-written (k + 1) _ (even_of (at lines)) (bits-over k all _ (even_of (at lines))
          (bits-read k all (even_of (at lines)) c.loop-k.auto.all inv.2) (even-word (at lines) k) fits
          (even-bits k _ _ _ (omega arith) u.ensures.lines_after inv.1 _ u.ensures.k_bound.0)),
      bits-written (k + 1) _ (odd_of (at lines)) (bits-over k all _ (odd_of (at lines))
          (bits-read k all (odd_of (at lines)) c.loop-k.auto.all inv.3) (odd-word (at lines) k) fits
          (odd-bits k _ _ _ (omega arith) u.ensures.lines_after inv.1 _ u.ensures.k_bound.1)),
    )

pub shape_of-lines : goal.shape_of-lines
shape_of-lines c = c.loop-k.invariant.0

pub returns : goal.returns
unfolding max_sample
returns c =
    let lines = c.args.lines.now in
    let inv = c.loop-k.invariant in
    let all = c.loop-k.all-bits in
    let e : c.loop-k.k ≡ c.args.width = omega (arith, c.loop-k-test.false) in
    record {
      pair_back = rw e at inv.1.back;
      is_height = λ t j b. (
        bits-end c.loop-k.k _ all (odd_of (at lines)) (omega (arith, c.loop-k-test.false))
            (bits-read c.loop-k.k all (odd_of (at lines)) c.loop-k.auto.all inv.3) t j b,
        bits-end c.loop-k.k _ all (even_of (at lines)) (omega (arith, c.loop-k-test.false))
            (bits-read c.loop-k.k all (even_of (at lines)) c.loop-k.auto.all inv.2) t j b,
      );
    }
