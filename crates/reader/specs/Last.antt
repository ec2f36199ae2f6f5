-- A reader with no level to work out. Document 02, Q-6: "It hands out the rows of LL at level j, each value limited to 0 to 65,535"; "at j = L each fed row is
-- the next to draw." So is one whose low-low part is empty, which has no row to draw. Each row fed stands at the front of the line store; 14 never comes.
-- The band of its state: 0 where LL row `drawn` of level `stop` is wanted, else that row can be drawn.
use Rattle.std.specs.Prelude.{Bool, false, not, ℕ, suc, ℤ, leb, ltb, eqb}
use Rattle.numbers.specs.Signal.{pick, both}
use Rattle.lifting.specs.Halves.{fronted}
use Rattle.wavelet.specs.Limits.{max_width, max_height, max_origin}
use Rattle.wavelet.specs.Bands.{LL, code}
use Rattle.wavelet.specs.Questions.{ask, within}
use Rattle.filters.specs.Filters.{filter_of, is_filter}
use Rattle.reader.specs.declared.Reader.{Reader}
use Rattle.reader.specs.Answers.{Reply, gives, refused, Want, row, draw_now, done, ended, Handed, a_row, nothing}
use Rattle.reader.specs.Limited.{limited}
use Rattle.reader.specs.Questions.{store_fits, run_fits}

-- the most numbers that a map's line store needs, and more: eight rows of twice four levels of the widest map
unfoldable pub max_spare : ℕ
max_spare = 131136

-- question 1: size, origin and row, no level, and room for a row among the numbers that the store needs; it is not a tolerant one
unfoldable pub counts_fit : Reader → Bool
counts_fit s =
    both (is_filter s.filter)
    (both (within 1 (filter_of s.filter).levels s.stop)
    (both (leb s.width max_width)
    (both (leb s.height max_height)
    (both (leb s.x max_origin)
    (both (leb s.y max_origin)
    (both (leb s.drawn s.height)
    (both (eqb s.level 0)
    (both (leb s.band 4)
    (both (eqb s.back 0)
    (both (leb s.width s.spare)
    (both (leb s.spare max_spare)
    (eqb s.admission 0))))))))))))

-- a row is left; it is wanted; it can be drawn
unfoldable pub unfinished : Reader → Bool
unfinished s = ltb s.drawn s.height

unfoldable pub row_due : Reader → Bool
row_due s = both (unfinished s) (eqb s.band 0)

unfoldable pub draw_due : Reader → Bool
draw_due s = both (unfinished s) (not (eqb s.band 0))

-- ---- the questions: 1, 5 and 9; 8, 13 and 7; 12
unfoldable pub store_question : Reader → ℕ → ℕ
store_question s n = ask (counts_fit s) 1 (ask (store_fits s.spare n) 5 (ask (not s.ended) 9 0))

unfoldable pub row_question : Reader → ℕ → (ℕ → ℤ) → ℕ
row_question s m v = ask (row_due s) 8 (ask (eqb m s.width) 13 (ask (run_fits s.filter s.stop m v) 7 0))

unfoldable pub want_question : Reader → ℕ
want_question s = ask (counts_fit s) 1 0

-- lent a store of n numbers: a run v of m numbers is fed, a row is drawn into an area of m heights
unfoldable pub feed_question : Reader → ℕ → ℕ → (ℕ → ℤ) → ℕ
feed_question s n m v =
    ask (counts_fit s) 1
    (ask (store_fits s.spare n) 5
    (ask (not s.ended) 9
    (ask (row_due s) 8
    (ask (eqb m s.width) 13
    (ask (run_fits s.filter s.stop m v) 7
    0)))))

unfoldable pub draw_question : Reader → ℕ → ℕ → ℕ
draw_question s n m =
    ask (counts_fit s) 1
    (ask (store_fits s.spare n) 5
    (ask (not s.ended) 9
    (pick (draw_due s) (ask (leb s.width m) 12 0) 0)))

-- ---- the answers, q being the number of the question that turned the call away
unfoldable pub wants : Reader → Want
wants s =
    pick s.ended ended
    (pick (unfinished s)
    (pick (eqb s.band 0) (row s.stop (code LL) s.drawn s.width) draw_now)
    done)

abbrev pub moved_to : Reader → ℕ → ℕ → Reader
moved_to s d c = record {
  width = s.width;
  height = s.height;
  levels = s.levels;
  x = s.x;
  y = s.y;
  drawn = d;
  level = 0;
  back = 0;
  band = c;
  ended = false;
  filter = s.filter;
  stop = s.stop;
  spare = s.spare;
  admission = s.admission;
}

unfoldable pub want_reply : Reader → ℕ → Reply Want
want_reply s q = pick (eqb q 0) (gives (wants s)) (refused q)

unfoldable pub feed_reply : Reader → ℕ → Reply Reader
feed_reply s q = pick (eqb q 0) (gives (moved_to s s.drawn 4)) (refused q)

unfoldable pub draw_reply : Reader → ℕ → Reply Handed
draw_reply s q = pick (eqb q 0) (gives (pick (draw_due s) (a_row s.width (moved_to s (suc s.drawn) 0)) nothing)) (refused q)

-- ---- the areas: the row v fed at the front of the store x, the row that stands there limited at the front of the output area z
unfoldable pub feed_store : Reader → ℕ → (ℕ → ℤ) → (ℕ → ℤ) → ℕ → ℤ
feed_store s q v x = pick (eqb q 0) (fronted s.width v x) x

unfoldable pub draw_area : Reader → ℕ → (ℕ → ℤ) → (ℕ → ℤ) → ℕ → ℤ
draw_area s q x z = pick (eqb q 0) (pick (draw_due s) (fronted s.width (λ c. limited (x c)) z) z) z
