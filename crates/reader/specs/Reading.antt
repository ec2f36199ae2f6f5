-- What each call on a reader asks and answers, and what stands in each lent area afterwards: of a reader with levels to work out (Questions, Calls), and of one
-- without, which hands on the rows fed (Last).
use Rattle.std.specs.Prelude.{Bool, ℕ, zero, suc, ℤ}
use Rattle.reader.specs.declared.Reader.{Reader}
use Rattle.reader.specs.Answers.{Reply, Want, Handed}
use Rattle.reader.specs.Questions as levels
use Rattle.reader.specs.Calls as levels-call
use Rattle.reader.specs.Last as last

-- one thing of a reader without levels, another of one with levels
abbrev pub by : {A : Type 0} → ℕ → A → A → A
by zero a b = a
by (suc l) a b = b

-- question 1
abbrev pub counts_fit : Reader → Bool
counts_fit s = by s.levels (last.counts_fit s) (levels.counts_fit s)

-- ---- the questions; n is the length of the store, x what stands in it
abbrev pub want_question : Reader → ℕ
want_question s = by s.levels (last.want_question s) (levels.want_question s)

abbrev pub feed_question : Reader → ℕ → (ℕ → ℤ) → ℕ → (ℕ → ℤ) → ℕ
feed_question s n x m v = by s.levels (last.feed_question s n m v) (levels.feed_question s n x m v)

abbrev pub draw_question : Reader → ℕ → (ℕ → ℤ) → ℕ → ℕ
draw_question s n x m = by s.levels (last.draw_question s n m) (levels.draw_question s n x m)

-- ---- the answers and the areas, q being the number of the question that turned the call away
abbrev pub want_reply : Reader → ℕ → Reply Want
want_reply s q = by s.levels (last.want_reply s q) (levels-call.want_reply s q)

abbrev pub feed_reply : Reader → ℕ → Reply Reader
feed_reply s q = by s.levels (last.feed_reply s q) (levels-call.feed_reply s q)

abbrev pub feed_store : Reader → ℕ → (ℕ → ℤ) → (ℕ → ℤ) → ℕ → ℤ
feed_store s q v x = by s.levels (last.feed_store s q v x) (levels-call.feed_store s q v x)

abbrev pub draw_reply : Reader → ℕ → Reply Handed
draw_reply s q = by s.levels (last.draw_reply s q) (levels-call.draw_reply s q)

-- a draw of a row handed on leaves the store as it is
abbrev pub draw_store : Reader → ℕ → (ℕ → ℤ) → ℕ → ℤ
draw_store s q x = by s.levels x (levels-call.draw_store s q x)

abbrev pub draw_area : Reader → ℕ → (ℕ → ℤ) → (ℕ → ℤ) → ℕ → ℤ
draw_area s q x z = by s.levels (last.draw_area s q x z) (levels-call.draw_area s q x z)
