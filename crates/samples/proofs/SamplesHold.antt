-- Every sample of the tables holds: both sides compute to the same. Assumes nothing.
use mathlib.Core.Path.{refl}
use Rattle.lifting.specs.Line.{predicted, updated, mirror, unupdated, unpredicted}
use Rattle.lifting.specs.Grid.{half, place, count, joined, before, after, high_at, low_at, even_at, odd_at, line_forward, line_halves_back, line_back, single_high}
use Rattle.lifting.specs.Grid.{is_even}
use Rattle.lifting.specs.Grid.{has_line}
use Rattle.numbers.specs.Word.{wrap32}
use Rattle.wavelet.specs.Limits.{max_width, max_height, max_sample, range}
use Rattle.wavelet.specs.Questions.{within}
use Rattle.wavelet.specs.Maps.{every, every_cell, value_fits, in-range, rebuilt_fits}
use Rattle.wavelet.specs.Bands.{across, down, band_of, columns_lifted, subband, rows_unlifted, level_back, rows_have, columns_have, level_has}
use Rattle.wavelet.specs.Plane.{cells, flat, half_at, place_in, in_corner, plane_cell, plane_of, level_at, plane_bands, map_back}
use Rattle.wavelet.specs.Order.{handed_out, in_turn, first_set, last_set, set_row, set_has, rows_of, set_rows, made_by, unmade, closing}
use Rattle.wavelet.specs.Order.{made}
use Rattle.wavelet.specs.Steps.{feed_all, band_rows_of, set_to, set_of, sets_before, row_steps, set_steps, steps}
use Rattle.wavelet.specs.Levels.{next, side_at, approximation, level_band}
use Rattle.wavelet.specs.View.{band_columns}
use Rattle.nine_seven.specs.NineSeven as nine
use Rattle.filters.specs.Filters.{filter_of, is_filter}
use Rattle.map_questions.specs.Calls.{shape_questions, size_questions, plane_questions, backward_question}
use Rattle.samples.specs.Samples.{listed, values, band_row, holds_line, holds_map, holds_answer, holds_order, holds_wants, holds_counts, holds_plays}
use Rattle.samples.specs.Samples.{AllHold, none}
use Rattle.samples.specs.Samples.{also, counted, counts_of, table, odd_table, second_table, seven_table, second_seven_table}

pub samples-hold : AllHold 0 table
unfolding values listed line_forward low_at high_at before after half place mirror predicted updated count plane_of plane_cell in_corner flat cells subband
    columns_lifted across down band_of half_at place_in band_row band_columns next side_at approximation level_band handed_out first_set last_set set_row set_has rows_of
    set_rows made_by unmade closing in_turn made feed_all set_to set_of sets_before row_steps set_steps steps band_rows_of backward_question size_questions shape_questions
    plane_questions is_filter filter_of within max_width max_height max_sample range in-range rebuilt_fits every_cell every value_fits level_at plane_bands map_back
    level_back level_has rows_have columns_have rows_unlifted line_back line_halves_back joined even_at odd_at has_line single_high is_even unupdated unpredicted wrap32
samples-hold =
    also (holds_line refl refl)
    (also (holds_line refl refl)
    (also (holds_line refl refl)
    (also (holds_line refl refl)
    (also (holds_map refl)
    (also (holds_map refl)
    (also (holds_order refl)
    (also (holds_wants refl)
    (also (holds_map refl)
    (also (holds_answer refl)
    (also (holds_answer refl)
    (also (holds_answer refl)
    (also (holds_answer refl)
    none))))))))))))

pub odd-samples-hold : AllHold 0 odd_table
unfolding values listed line_forward low_at high_at before after half place mirror predicted updated count plane_of plane_cell in_corner flat cells subband
    columns_lifted across down band_of half_at place_in band_row band_columns next side_at approximation level_band handed_out first_set last_set set_row set_has rows_of
    set_rows made_by unmade closing in_turn made feed_all set_to set_of sets_before row_steps set_steps steps band_rows_of backward_question size_questions shape_questions
    plane_questions is_filter filter_of within max_width max_height max_sample range in-range rebuilt_fits every_cell every value_fits level_at plane_bands map_back
    level_back level_has rows_have columns_have rows_unlifted line_back line_halves_back joined even_at odd_at has_line single_high is_even unupdated unpredicted wrap32
odd-samples-hold =
    also (holds_line refl refl)
    (also (holds_line refl refl)
    (also (holds_map refl)
    (also (holds_answer refl)
    (also (holds_answer refl)
    (also (holds_answer refl)
    (also (holds_answer refl)
    (also (holds_order refl)
    (also (holds_wants refl)
    none))))))))

pub second-samples-hold : AllHold 1 second_table
unfolding values listed line_forward low_at high_at before after half place mirror predicted updated count plane_of plane_cell in_corner flat cells subband
    columns_lifted across down band_of half_at place_in band_row band_columns next side_at approximation level_band handed_out first_set last_set set_row set_has rows_of
    set_rows made_by unmade closing in_turn made feed_all set_to set_of sets_before row_steps set_steps steps band_rows_of backward_question size_questions shape_questions
    plane_questions is_filter filter_of within max_width max_height max_sample range in-range rebuilt_fits every_cell every value_fits level_at plane_bands map_back
    level_back level_has rows_have columns_have rows_unlifted line_back line_halves_back joined even_at odd_at has_line single_high is_even unupdated unpredicted wrap32
    nine.line_forward nine.line_halves_back nine.line_back nine.low_at nine.high_at nine.even_at nine.odd_at nine.mirror nine.before nine.after nine.predicted
    nine.updated nine.unpredicted nine.unupdated nine.low_part
second-samples-hold =
    also (holds_line refl refl)
    (also (holds_line refl refl)
    (also (holds_line refl refl)
    (also (holds_line refl refl)
    (also (holds_line refl refl)
    (also (holds_line refl refl)
    (also (holds_line refl refl)
    (also (holds_answer refl)
    (also (holds_answer refl)
    (also (holds_answer refl)
    (also (holds_answer refl)
    (also (holds_answer refl)
    (also (holds_order refl)
    (also (holds_wants refl)
    none)))))))))))))

pub seven-hold : AllHold 0 seven_table
unfolding values listed line_forward low_at high_at before after half place mirror predicted updated count plane_of plane_cell in_corner flat cells subband
    columns_lifted across down band_of half_at place_in band_row band_columns next side_at approximation level_band handed_out first_set last_set set_row set_has rows_of
    set_rows made_by unmade closing in_turn made feed_all set_to set_of sets_before row_steps set_steps steps band_rows_of backward_question size_questions shape_questions
    plane_questions is_filter filter_of within max_width max_height max_sample range in-range rebuilt_fits every_cell every value_fits level_at plane_bands map_back
    level_back level_has rows_have columns_have rows_unlifted line_back line_halves_back joined even_at odd_at has_line single_high is_even unupdated unpredicted wrap32
    counted counts_of
seven-hold =
    also (holds_order refl)
    (also (holds_counts refl)
    (also (holds_plays refl)
    (also (holds_order refl)
    (also (holds_counts refl)
    (also (holds_plays refl)
    (also (holds_line refl refl)
    none))))))

pub second-seven-hold : AllHold 1 second_seven_table
unfolding values listed line_forward low_at high_at before after half place mirror predicted updated count plane_of plane_cell in_corner flat cells subband
    columns_lifted across down band_of half_at place_in band_row band_columns next side_at approximation level_band handed_out first_set last_set set_row set_has rows_of
    set_rows made_by unmade closing in_turn made feed_all set_to set_of sets_before row_steps set_steps steps band_rows_of backward_question size_questions shape_questions
    plane_questions is_filter filter_of within max_width max_height max_sample range in-range rebuilt_fits every_cell every value_fits level_at plane_bands map_back
    level_back level_has rows_have columns_have rows_unlifted line_back line_halves_back joined even_at odd_at has_line single_high is_even unupdated unpredicted wrap32
    nine.line_forward nine.line_halves_back nine.line_back nine.low_at nine.high_at nine.even_at nine.odd_at nine.mirror nine.before nine.after nine.predicted
    nine.updated nine.unpredicted nine.unupdated nine.low_part
    counted counts_of
second-seven-hold =
    also (holds_order refl)
    (also (holds_counts refl)
    (also (holds_plays refl)
    (also (holds_order refl)
    (also (holds_counts refl)
    (also (holds_plays refl)
    (also (holds_line refl refl)
    none))))))
