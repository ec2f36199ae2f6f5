-- A look at what waits: as the code's branches meet it, and that it says what the next draw gives (`look-says`, `look-room`), by the history too
-- (`look-waits`).
-- Assumes nothing.
use mathlib.Core.Bool.{Bool, true, false, not}
use mathlib.Core.Path.{◌≡◌, refl, sym, ap, ◌∙◌}
use mathlib.Core.List.{List}
use Prim.Native.Nat.{ℕ, zero, suc, ◌≤◌, ◌<◌}
use native.Mathlib.Omega.{arith}
use lib.Dec.{leb, eqb}
use borrow.Author.Tests.{not-true, not-false, le-leb, ne_eqb}
use Rattle.numbers.specs.Signal.{pick}
use Rattle.wavelet.specs.Questions.{ask}
use Rattle.lifting.specs.Grid.{Side}
use Rattle.wavelet.specs.Limits.{max_origin}
use Rattle.filters.specs.Figures.{writer_store_by}
use Rattle.calls.specs.Lists.{gives, refused, unless}
use Rattle.level.specs.Level.{Memory}
use Rattle.progress.specs.declared.levels.Level.{Level}
use Rattle.writer.specs.declared.Writer.{Writer}
use Rattle.writer.specs.declared.BandRow.{BandRow}
use Rattle.writer.specs.Draws.{Waiting}
use Rattle.writer.specs.Taking.{columns_of}
use Rattle.writer.specs.Questions.{either, in_ranges, long_enough, waiting_row, set_up_question, draw_question, waits_question}
use Rattle.writer.specs.Answers.{Handed, nothing}
use Rattle.writer.specs.FirstQuestions.{state_question}
use Rattle.writer.specs.Steps.{waiting_at, Reached}
use Rattle.writer.specs.Calls.{handed, draw_reply, band_row, no_row, awaited, waits_reply, row_handed}
use Rattle.writer.specs.History.{Call, event, events, final, fresh_world}
use Rattle.writer.specs.Demand3.{waiting_of, next_row}
use Rattle.writer.proofs.QuestionLaws.{Sound, sound}
use Rattle.writer.proofs.Demand3.{demand-3}

-- ---- the call
module _ (s : Writer) (t : Bool) (e : t ≡ in_ranges s) where
  pub look-no : not t ≡ true → refused 1 ≡ waits_reply s
  unfolding waits_reply waits_question
  look-no h = rw (sym e ∙ not-true t h) refl

  yes : not t ≡ false → in_ranges s ≡ true
  yes h = sym e ∙ not-false t h

  look-passes : (b : BandRow) → not t ≡ false → b ≡ awaited s.level s → gives b ≡ waits_reply s
  unfolding waits_reply waits_question
  look-passes b h f = rw (yes h) (ap gives f)

  pub look-sound : not t ≡ false → Sound s (writer_store_by s.filter (columns_of s) s.levels)
  look-sound h =
      let k = writer_store_by s.filter (columns_of s) s.levels in
      sound s k (unfold state_question long_enough in rw (yes h, le-leb k k (omega arith)) refl)

  none-awaited : (v : ℕ) → v ≡ 0 → no_row ≡ awaited v s
  none-awaited zero f = refl
  none-awaited (suc v) f = absurd (omega arith)

  row-awaited : (v : ℕ) → 0 < v → band_row (waiting_row s) ≡ awaited v s
  row-awaited zero f = absurd (omega arith)
  row-awaited (suc v) f = refl

  pub look_none : not t ≡ false → s.level ≡ 0 → gives no_row ≡ waits_reply s
  look_none h f = look-passes no_row h (none-awaited s.level f)

  pub look-row : (r : BandRow) → r ≡ band_row (waiting_row s) → not t ≡ false → 0 < s.level → gives r ≡ waits_reply s
  look-row r f h p = look-passes _ h (f ∙ row-awaited s.level p)

-- what waits is a row of the level that it waits at
pub waiting-level : (s : Writer) (q : Level) → Reached s q → (waiting_row s).level ≡ s.level
unfolding waiting_at
waiting-level s q r = ap (λ (w : Waiting). w.level) (r.waits s.left)

-- ---- it says what the next draw gives
module _ (s : Writer) (n k : ℕ) (x : Memory) where
  pub look-says : (h : Handed) → draw_reply s n k x ≡ gives h → waits_reply s ≡ gives (row_handed h)
  unfolding draw_reply waits_reply waits_question draw_question
  look-says h e = go (in_ranges s) (ask (long_enough n s) 5 (ask (either (eqb s.level 0) (leb (waiting_row s).length k)) 12 0)) s.level e
    where
      go : (a : Bool) (q v : ℕ) → unless (ask a 1 q) (handed v s x) ≡ gives h → unless (ask a 1 0) (awaited v s) ≡ gives (row_handed h)
      go true zero zero e = let z : nothing ≡ h = cc in ap (λ (d : Handed). gives (row_handed d)) z
      go true zero (suc v) e = let z : handed (suc v) s x ≡ h = cc in ap (λ (d : Handed). gives (row_handed d)) z
      go true (suc q) v e = let z : ◌≡◌ {A = ℕ} 0 1 = cc in absurd (omega arith)
      go false q v e = let z : ◌≡◌ {A = ℕ} 0 1 = cc in absurd (omega arith)

  -- and how much room it asks for
  pub look-room : (b : BandRow) → waits_reply s ≡ gives b → long_enough n s ≡ true → draw_question s n k ≡ pick (leb b.length k) 0 12
  unfolding waits_reply waits_question draw_question
  look-room b e f = rw f (go (in_ranges s) s.level refl e)
    where
      go : (a : Bool) (v : ℕ) → s.level ≡ v → unless (ask a 1 0) (awaited v s) ≡ gives b →
          ask a 1 (ask (either (eqb v 0) (leb (waiting_row s).length k)) 12 0) ≡ pick (leb b.length k) 0 12
      go true zero l e = let z : no_row ≡ b = cc in rw (← z) (simp (le-leb 0 k (omega arith)))
      go true (suc v) l e = let z : band_row (waiting_row s) ≡ b = cc in rw (← z) (simp (ne_eqb (suc v) 0 (λ d. omega arith)))
      go false v l e = let z : ◌≡◌ {A = ℕ} 0 1 = cc in absurd (omega arith)

-- ---- by the history: of the rows that wait the first
pub look-waits : (f : ℕ) (W : Side) (top L n : ℕ) (x : Memory) → W.start ≤ max_origin → top ≤ max_origin → set_up_question f W L n ≡ 0 → (cs : List Call) →
    (let w = fresh_world f W top L n x in waits_reply (final cs w).writer ≡ gives (next_row W (waiting_of f W top L (events cs w))))
unfolding event
look-waits f W top L n x from low s cs = let e = (demand-3 f W top L n x from low s cs).1.looks in cc e
