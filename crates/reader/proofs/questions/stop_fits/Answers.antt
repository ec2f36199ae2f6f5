-- `reader::questions::stop_fits` meets its contract: the two tests. Assumes nothing.
use mathlib.Core.Path.{sym, ◌∙◌, ap}
use Prim.Native.Nat.{ℕ, ◌*◌}
use native.Mathlib.Omega.{arith}
use Rattle.wavelet.specs.Limits.{max_width}
use Rattle.reader.proofs.QuestionLaws.{stop-no, stop-yes, spare-room}
use Rattle.reader.proofs.questions.stop_fits.Goals as goal

pub overflow_sub-most_levels : goal.overflow_sub-most_levels
overflow_sub-most_levels c = omega (arith, c.most_levels.ensures, c.requires)

pub returns-then-most_levels-levels : goal.returns-then-most_levels-levels
returns-then-most_levels-levels c = stop-no _ _ _ _ _ c.most_levels.ensures c.if-most_levels-levels.true

pub overflow_mul-result : goal.overflow_mul-result
unfolding max_width
overflow_mul-result c =
    let room = spare-room c.args.filter 0 (omega arith) in
    omega (arith, ap (λ (r : ℕ). r * max_width) c.rows_kept.ensures, room.0)

pub overflow_mul-result-2 : goal.overflow_mul-result-2
unfolding max_width
overflow_mul-result-2 c =
    let room = spare-room c.args.filter c.args.stop (omega (arith, c.if-most_levels-levels.false, c.most_levels.ensures)) in
    omega (arith, ap (λ (r : ℕ). c.args.stop * (r * max_width)) c.rows_kept.ensures, room.1)

pub returns : goal.returns
unfolding max_width
returns c =
    stop-yes _ _ _ _ _ _ c.most_levels.ensures c.if-most_levels-levels.false c.rows_kept.ensures
