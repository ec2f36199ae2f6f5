-- The listing of document 01's column, of the same input without its last byte, of the column from another header, and of a sample that is too large.
-- Assumes nothing.
use mathlib.Core.Path.{◌≡◌, refl}
use mathlib.Core.List.{List, [], ◌∷◌, ◌++◌}
use Prim.Native.Nat.{ℕ}
use Rattle.lifting.specs.Line.{predicted, updated, mirror}
use Rattle.lifting.specs.Grid.{place, before, after, high_at, low_at, count, line_forward}
use Rattle.wavelet.specs.Bands.{across, down, columns_lifted, subband}
use Rattle.wavelet.specs.Order.{handed_out, in_turn, first_set, last_set, set_row, set_has, rows_of, set_rows, made_by, unmade, closing, made}
use Rattle.wavelet.specs.Levels.{next, side_at, approximation, level_band}
use Rattle.wavelet.specs.View.{band_columns}
use Rattle.wavelet.specs.Limits.{max_levels}
use Rattle.pgm.specs.Characters.{space, line_end, digit}
use Rattle.pgm.specs.Header.{one, comment, gap, after_gaps, number_from, field, side, sized, header_end, header_of}
use Rattle.pgm.specs.Runs.{wide, sample_size, pairs_of, samples_of, fitting, exceeds, heights_of}
use Rattle.text.specs.Decimal.{digits_of, numeral, integer}
use Rattle.text.specs.Refusal.{refused_line}
use Rattle.listing.specs.Lines.{spaced, row_head, row_line, line_of, lines_of, size_line}
use Rattle.pgm.specs.Limits.{max_field, max_picture_width, max_picture_height, up_to, size_fits}
use Rattle.pgm.specs.InputSteps.{level_digit}
use Rattle.pgm.specs.Heights.{heights_taken, too_large}
use Rattle.listing.specs.Listing.{head_end, head_of, grid_of, lines_due, body_of, listing_of}

-- 2, P5 1 4 65535, and the heights 1, 4, 2 and the first byte of 7
abbrev input : List ℕ
input = 50 ∷ 10 ∷ 80 ∷ 53 ∷ 32 ∷ 49 ∷ 32 ∷ 52 ∷ 32 ∷ 54 ∷ 53 ∷ 53 ∷ 51 ∷ 53 ∷ 10 ∷ 0 ∷ 1 ∷ 0 ∷ 4 ∷ 0 ∷ 2 ∷ 0 ∷ []

whole : listing_of (input ++ (7 ∷ [])) ≡ 49 ∷ 32 ∷ 52 ∷ 32 ∷ 50 ∷ 10 ∷ 49 ∷ 32 ∷ 76 ∷ 72 ∷ 32 ∷ 48 ∷ 32 ∷ 51 ∷ 10 ∷ 49 ∷ 32 ∷ 76 ∷ 72 ∷ 32 ∷ 49 ∷ 32 ∷ 53
    ∷ 10 ∷ 50 ∷ 32 ∷ 76 ∷ 76 ∷ 32 ∷ 48 ∷ 32 ∷ 52 ∷ 10 ∷ 50 ∷ 32 ∷ 76 ∷ 72 ∷ 32 ∷ 48 ∷ 32 ∷ 49 ∷ 10 ∷ []
unfolding listing_of head_of level_digit max_levels max_field max_picture_width max_picture_height up_to size_fits head_end heights_taken too_large grid_of lines_due body_of one
    comment gap after_gaps number_from field side sized header_end header_of space line_end digit wide sample_size pairs_of samples_of fitting exceeds
    heights_of refused_line made in_turn closing unmade made_by set_rows rows_of set_has set_row first_set last_set handed_out lines_of line_of row_line row_head spaced
    size_line integer numeral digits_of level_band approximation side_at next band_columns subband columns_lifted across down line_forward low_at high_at before after
    place mirror predicted updated count
whole = refl

-- the lines that three rows make due, then the refusal
short : listing_of input ≡ 49 ∷ 32 ∷ 52 ∷ 32 ∷ 50 ∷ 10 ∷ 49 ∷ 32 ∷ 76 ∷ 72 ∷ 32 ∷ 48 ∷ 32 ∷ 51 ∷ 10 ∷ 114 ∷ 101 ∷ 102 ∷ 117 ∷ 115 ∷ 101 ∷ 100 ∷ 32 ∷ 49
    ∷ 53 ∷ 10 ∷ []
unfolding listing_of head_of level_digit max_levels max_field max_picture_width max_picture_height up_to size_fits head_end heights_taken too_large grid_of lines_due body_of one
    comment gap after_gaps number_from field side sized header_end header_of space line_end digit wide sample_size pairs_of samples_of fitting exceeds
    heights_of refused_line made in_turn closing unmade made_by set_rows rows_of set_has set_row first_set last_set handed_out lines_of line_of row_line row_head spaced
    size_line integer numeral digits_of level_band approximation side_at next band_columns subband columns_lifted across down line_forward low_at high_at before after
    place mirror predicted updated count
short = refl

-- the same column as a paint tool may write it: P5 # LF 1 TAB 4 CR LF LF 255 # CR, one byte a sample
painted : listing_of (50 ∷ 10 ∷ 80 ∷ 53 ∷ 35 ∷ 10 ∷ 49 ∷ 9 ∷ 52 ∷ 13 ∷ 10 ∷ 10 ∷ 50 ∷ 53 ∷ 53 ∷ 35 ∷ 13 ∷ 1 ∷ 4 ∷ 2 ∷ 7 ∷ []) ≡ 49 ∷ 32 ∷ 52 ∷ 32 ∷ 50 ∷ 10
    ∷ 49 ∷ 32 ∷ 76 ∷ 72 ∷ 32 ∷ 48 ∷ 32 ∷ 51 ∷ 10 ∷ 49 ∷ 32 ∷ 76 ∷ 72 ∷ 32 ∷ 49 ∷ 32 ∷ 53 ∷ 10 ∷ 50 ∷ 32 ∷ 76 ∷ 76 ∷ 32 ∷ 48 ∷ 32 ∷ 52 ∷ 10 ∷ 50 ∷ 32 ∷ 76 ∷ 72
    ∷ 32 ∷ 48 ∷ 32 ∷ 49 ∷ 10 ∷ []
unfolding listing_of head_of level_digit max_levels max_field max_picture_width max_picture_height up_to size_fits head_end heights_taken too_large grid_of lines_due body_of one
    comment gap after_gaps number_from field side sized header_end header_of space line_end digit wide sample_size pairs_of samples_of fitting exceeds
    heights_of refused_line made in_turn closing unmade made_by set_rows rows_of set_has set_row first_set last_set handed_out lines_of line_of row_line row_head spaced
    size_line integer numeral digits_of level_band approximation side_at next band_columns subband columns_lifted across down line_forward low_at high_at before after
    place mirror predicted updated count
painted = refl

-- with the largest value 3 the second sample is refused, and question 15 is not asked of what follows
exceeding : listing_of (50 ∷ 10 ∷ 80 ∷ 53 ∷ 32 ∷ 49 ∷ 32 ∷ 52 ∷ 32 ∷ 51 ∷ 10 ∷ 1 ∷ 4 ∷ []) ≡ 49 ∷ 32 ∷ 52 ∷ 32 ∷ 50 ∷ 10 ∷ 114 ∷ 101 ∷ 102 ∷ 117 ∷ 115
    ∷ 101 ∷ 100 ∷ 32 ∷ 49 ∷ 54 ∷ 10 ∷ []
unfolding listing_of head_of level_digit max_levels max_field max_picture_width max_picture_height up_to size_fits head_end heights_taken too_large grid_of lines_due body_of one
    comment gap after_gaps number_from field side sized header_end header_of space line_end digit wide sample_size pairs_of samples_of fitting exceeds
    heights_of refused_line made in_turn closing unmade made_by set_rows rows_of set_has set_row first_set last_set handed_out lines_of line_of row_line row_head spaced
    size_line integer numeral digits_of level_band approximation side_at next band_columns subband columns_lifted across down line_forward low_at high_at before after
    place mirror predicted updated count
exceeding = refl
