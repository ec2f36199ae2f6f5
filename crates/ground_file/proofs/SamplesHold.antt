-- The worked cases of docs/FORMAT.md hold: both sides compute to the same. Assumes nothing.
use mathlib.Core.Path.{◌≡◌, refl}
use Rattle.numbers.specs.Signal.{at}
use Rattle.numbers.specs.Word.{whole}
use Rattle.lifting.specs.Line.{predicted, updated, mirror}
use Rattle.lifting.specs.Grid.{half, place, count, before, after, high_at, low_at, line_forward}
use Rattle.wavelet.specs.Bands.{across, down, band_of, columns_lifted, subband}
use Rattle.wavelet.specs.Plane.{cells, flat, half_at, place_in, in_corner, plane_cell, plane_of}
use Rattle.wavelet.specs.Order.{handed_out, in_turn, first_set, last_set, set_row, set_has, rows_of, set_rows}
use Rattle.wavelet.specs.Steps.{feed_all, band_rows_of, set_to, set_of, sets_before, row_steps, set_steps, steps}
use Rattle.wavelet.specs.Levels.{next, side_at}
use Rattle.wavelet.specs.View.{band_columns, band_start}
use Rattle.wavelet.specs.Shape.{columns, rows}
use Rattle.filters.specs.Filters.{filter_of}
use Rattle.ground_file.specs.Groups.{zigzag, width_of, holds, code_from, code_of, digits, bytes_of, part_of, group_of, groups_of, row_bytes}
use Rattle.ground_file.specs.File.{header_of, stored, listed, numbers_of, rows_bytes, body_of, prime, as_number, file_of}
use Rattle.ground_file.specs.Samples.{shaped, square_plane, square_file, column_plane, column_file, row_heights, row_file}

pub square : file_of (shaped 2 2 1) 1 (at square_plane) ≡ square_file
unfolding file_of body_of header_of rows_bytes numbers_of listed stored zigzag row_bytes groups_of group_of part_of bytes_of digits code_of code_from holds width_of as_number
    prime steps row_steps set_steps sets_before set_of set_to band_rows_of feed_all set_rows rows_of set_has set_row last_set first_set in_turn handed_out band_columns
    band_start side_at next count half across down filter_of
square = refl

pub column : file_of (shaped 1 4 2) 2 (at column_plane) ≡ column_file
unfolding file_of body_of header_of rows_bytes numbers_of listed stored zigzag row_bytes groups_of group_of part_of bytes_of digits code_of code_from holds width_of as_number
    prime steps row_steps set_steps sets_before set_of set_to band_rows_of feed_all set_rows rows_of set_has set_row last_set first_set in_turn handed_out band_columns
    band_start side_at next count half across down filter_of
column = refl

pub row : file_of (shaped 17 1 1) 1 (plane_of (filter_of 0) whole 1 (columns (shaped 17 1 1)) (rows (shaped 17 1 1)) (cells 17 (at row_heights))) ≡ row_file
unfolding file_of body_of header_of rows_bytes numbers_of listed stored zigzag row_bytes groups_of group_of part_of bytes_of digits code_of code_from holds width_of as_number
    prime steps row_steps set_steps sets_before set_of set_to band_rows_of feed_all set_rows rows_of set_has set_row last_set first_set in_turn handed_out band_columns
    band_start side_at next count half across down filter_of plane_of plane_cell in_corner flat cells subband columns_lifted band_of half_at place_in line_forward low_at
    high_at before after place predicted updated mirror
row = refl
