-- The answers of a loader's calls in the terms of its definitions.
use Rattle.std.specs.Prelude.{ℕ, Option, Some, None, Result, Ok, Err, eqb, ℤ}
use Rattle.numbers.specs.Signal.{pick}
use Rattle.reader.specs.declared.Reader.{Reader}
use Rattle.reader.specs.Answers as answer
use Rattle.wavelet.specs.declared.shape.Shape.{Shape}
use Rattle.ground_loader.specs.declared.loader.Loader.{Loader}
use Rattle.refusal.specs.declared.Refusal.{Refusal}
use Rattle.refusal.specs.Numbers.{number}
use Rattle.ground_loader.specs.declared.loader.LoaderWant.{LoaderWant}
use Rattle.ground_loader.specs.declared.loader.LoaderWant.TheVariants as want
use Rattle.ground_loader.specs.declared.loader.TakeError.{TakeError}
use Rattle.ground_loader.specs.declared.loader.TakeError.TheVariants as taking
use Rattle.ground_loader.specs.declared.loader.DrawError.{DrawError}
use Rattle.ground_loader.specs.declared.loader.DrawError.TheVariants as drawing
use Rattle.ground_loader.specs.Loader.{Want, bytes, draw_now, done, ended, want_of, Answer, passed, impossible, turned}
use Rattle.ground_loader.specs.Loader.{loader_at, loader_fits, with_reader, fresh_loader}
use Rattle.ground_loader.specs.Coming.{between}
use Rattle.reader.specs.Reading.{draw_reply, draw_question, draw_store, draw_area}

-- what a call gives, or the number of the question that turned it away; 14, and the loader that it ended
pub data Reply (A : Type 0) : Type 0 where
  gives : A → Reply A
  refused : ℕ → Reply A
  ends : Loader → Reply A

-- so many heights in the output area and the loader then, or Nothing
pub data Handed : Type 0 where
  a_row : ℕ → Loader → Handed
  nothing : Handed

abbrev pub of_begun : Result Loader Refusal → Reply Loader
of_begun (Ok l) = gives l
of_begun (Err why) = refused (number why)

abbrev pub of_want : Result LoaderWant Refusal → Reply Want
of_want (Ok want.Bytes) = gives bytes
of_want (Ok want.Draw) = gives draw_now
of_want (Ok want.Done) = gives done
of_want (Ok want.Ended) = gives ended
of_want (Err why) = refused (number why)

abbrev pub of_loaded : Result (ℕ × Loader) TakeError → Answer
of_loaded (Ok t) = passed t.0 t.1
of_loaded (Err (taking.Impossible n l)) = impossible n l
of_loaded (Err (taking.Refused why)) = turned (number why)

abbrev pub of_drawn : Result (Option (ℕ × Loader)) DrawError → Reply Handed
of_drawn (Ok (Some d)) = gives (a_row d.0 d.1)
of_drawn (Ok None) = gives nothing
of_drawn (Err (drawing.Impossible l)) = ends l
of_drawn (Err (drawing.Refused why)) = refused (number why)

-- ---- what each call answers; q is the number of the question that turned it away
unfoldable pub set_up_reply : Shape → ℕ → ℕ → Reply Loader
set_up_reply s p q = pick (eqb q 0) (gives (fresh_loader s p)) (refused q)

unfoldable pub want_reply : Loader → ℕ → Reply Want
want_reply l q = pick (eqb q 0) (gives (want_of l)) (refused q)

-- "the reader's draw; what it gives, and the loader with the reader that it leaves"
abbrev pub handed : Loader → answer.Handed → Handed
handed l (answer.a_row n r) = a_row n (with_reader l r)
handed l answer.nothing = nothing

abbrev pub drawn_by : Loader → answer.Reply answer.Handed → Reply Handed
drawn_by l (answer.gives h) = gives (handed l h)
drawn_by l (answer.refused q) = refused q
drawn_by l (answer.impossible r) = ends (with_reader l r)

-- lent a line store of n numbers in which x stands, into an area of m heights that holds z
abbrev pub draw_reply_of : Loader → ℕ → (ℕ → ℤ) → ℕ → Reply Handed
draw_reply_of l n x m = pick (loader_fits l) (drawn_by l (draw_reply l.reader (draw_question l.reader n x m))) (refused 1)

abbrev pub draw_store_of : Loader → ℕ → (ℕ → ℤ) → ℕ → ℕ → ℤ
draw_store_of l n x m = pick (loader_fits l) (draw_store l.reader (draw_question l.reader n x m) x) x

abbrev pub draw_area_of : Loader → ℕ → (ℕ → ℤ) → ℕ → (ℕ → ℤ) → ℕ → ℤ
draw_area_of l n x m z = pick (loader_fits l) (draw_area l.reader (draw_question l.reader n x m) x z) z

-- the fresh loader of a reader's set-up
abbrev pub begun_by : ℕ → answer.Reply Reader → Reply Loader
begun_by p (answer.gives r) = gives (loader_at r p 0 (between 0) 0 0)
begun_by p (answer.refused q) = refused q
begun_by p (answer.impossible r) = refused 14
