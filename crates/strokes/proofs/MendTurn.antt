-- One level of the mended plane: its three high bands, and what the levels left make of the low-low part. Assumes nothing.
use mathlib.Core.Path.{◌≡◌, ◌∙◌}
use Prim.Native.Nat.{ℕ, suc}
use native.Mathlib.Decide.{dec_lt}
use native.Mathlib.Omega.{arith}
use borrow.Author.Tests.{lt-ltb, le-ltb, le-leb, lt-leb}
use Rattle.numbers.specs.Word.{wrap32}
use Rattle.lifting.specs.Line.{lo}
use Rattle.lifting.specs.Grid.{side, count}
use Rattle.lifting.specs.FiveThree.{five_three_filter}
use Rattle.lifting.proofs.GridLaws.{counts}
use Rattle.wavelet.specs.Bands.{Grid, LL, band_of, subband}
use Rattle.wavelet.specs.Levels.{next}
use Rattle.wavelet.specs.Plane.{plane_cell, half_at, place_in, in_corner}
use Rattle.map_levels.specs.Passes.{within}
use Rattle.strokes.specs.Reach.{Span, low_span, in_reach}
use Rattle.strokes.specs.Local.{touches, number_of, band_mended, highs_mended, grid_mended}
use Rattle.strokes.proofs.ReachLaws.{low-span}
use Rattle.strokes.proofs.PatchLaws.{second-no}

module _ (W H : ℕ) (s t : Span) (G P : Grid) where
  abbrev W2 : ℕ
  W2 = count lo (side 0 W)

  abbrev H2 : ℕ
  H2 = count lo (side 0 H)

  abbrev low : Grid
  low = subband five_three_filter wrap32 (side 0 W) (side 0 H) G LL

  abbrev highs : Grid
  highs = highs_mended W H s t G P

  module _ (L : ℕ) where
    pub turn : (r c : ℕ) → grid_mended (suc L) W H s t G P r c ≡ grid_mended L W2 H2 (low_span s) (low_span t) low highs r c
    unfolding grid_mended within in_reach plane_cell highs_mended band_mended touches number_of in_corner half_at place_in next band_of
    turn r c =
        let x = counts (side 0 W) in
        let y = counts (side 0 H) in
        elim (dec_lt c W2) [
          | yes p ↦
              elim (dec_lt r H2) [
                | yes q ↦ simp (lt-ltb c W2 p, lt-ltb c W (omega arith), lt-leb W2 c p, lt-ltb r H2 q, lt-ltb r H (omega arith), lt-leb H2 r q, second-no)
                | no q ↦
                    elim (dec_lt r H) [
                      | yes k ↦ simp (
                        lt-ltb c W2 p,
                        lt-ltb c W (omega arith),
                        lt-leb W2 c p,
                        le-ltb r H2 (omega arith),
                        lt-ltb r H k,
                        le-leb H2 r
                            (omega arith),
                        second-no,
                      )
                      | no k ↦ simp (
                        lt-ltb c W2 p,
                        lt-ltb c W (omega arith),
                        lt-leb W2 c p,
                        le-ltb r H2 (omega arith),
                        le-ltb r H
                            (omega arith),
                        le-leb H2 r (omega arith),
                        second-no,
                      )
                    ]
              ]
          | no p ↦
              elim (dec_lt c W) [
                | yes m ↦
                    elim (dec_lt r H2) [
                      | yes q ↦ simp (
                        le-ltb c W2 (omega arith),
                        lt-ltb c W m,
                        le-leb W2 c (omega arith),
                        lt-ltb r H2 q,
                        lt-ltb r H
                            (omega arith),
                        lt-leb H2 r q,
                        second-no,
                      )
                      | no q ↦
                          elim (dec_lt r H) [
                            | yes k ↦ simp (
                              le-ltb c W2 (omega arith),
                              lt-ltb c W m,
                              le-leb W2 c (omega arith),
                              le-ltb r H2
                                  (omega arith),
                              lt-ltb r H k,
                              le-leb H2 r (omega arith),
                              second-no,
                            )
                            | no k ↦ simp (
                              le-ltb c W2 (omega arith),
                              lt-ltb c W m,
                              le-leb W2 c (omega arith),
                              le-ltb r H2 (omega arith),
                              le-ltb r H
                                  (omega arith),
                              le-leb H2 r (omega arith),
                              second-no,
                            )
                          ]
                    ]
                | no m ↦
                    elim (dec_lt r H2) [
                      | yes q ↦ simp (
                        le-ltb c W2 (omega arith),
                        le-ltb c W (omega arith),
                        le-leb W2 c (omega arith),
                        lt-ltb r H2 q,
                        lt-ltb r H
                            (omega arith),
                        lt-leb H2 r q,
                        second-no,
                      )
                      | no q ↦
                          elim (dec_lt r H) [
                            | yes k ↦ simp (
                              le-ltb c W2 (omega arith),
                              le-ltb c W (omega arith),
                              le-leb W2 c (omega arith),
                              le-ltb r H2
                                  (omega arith),
                              lt-ltb r H k,
                              le-leb H2 r (omega arith),
                              second-no,
                            )
                            | no k ↦ simp (
                              le-ltb c W2 (omega arith),
                              le-ltb c W (omega arith),
                              le-leb W2 c (omega arith),
                              le-ltb r H2
                                  (omega arith),
                              le-ltb r H (omega arith),
                              le-leb H2 r (omega arith),
                              second-no,
                            )
                          ]
                    ]
              ]
        ]

  -- where no level is left, the low-low part
  corner : (r c : ℕ) → grid_mended 0 W2 H2 (low_span s) (low_span t) low highs r c ≡ band_mended lo lo W H s t low highs r c
  unfolding grid_mended within in_reach plane_cell band_mended touches number_of
  corner r c =
      elim (dec_lt c W2) [
        | yes p ↦
            elim (dec_lt r H2) [
              | yes q ↦ simp (lt-ltb c W2 p, lt-ltb r H2 q, low-span s c, low-span t r)
              | no q ↦ simp (lt-ltb c W2 p, le-ltb r H2 (omega arith), second-no)
            ]
        | no p ↦
            elim (dec_lt r H2) [
              | yes q ↦ simp (le-ltb c W2 (omega arith), lt-ltb r H2 q)
              | no q ↦ simp (le-ltb c W2 (omega arith), le-ltb r H2 (omega arith))
            ]
      ]

  -- the last level: the low-low part too
  pub last : (r c : ℕ) → grid_mended 1 W H s t G P r c ≡ band_mended lo lo W H s t low highs r c
  last r c = turn 0 r c ∙ corner r c
