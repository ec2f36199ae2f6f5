-- Every call leaves `column` in its range, from every state that passes question 1, reached by calls or not: `offer-column`, `draw-column`, `finish-column`.
-- Assumes nothing.
use mathlib.Core.Bool.{Bool, true, false, not}
use mathlib.Core.Path.{◌≡◌, refl, sym, ap, subst, ◌∙◌}
use mathlib.Core.List.{List, [], ◌∷◌}
use Prim.Native.Nat.{ℕ, zero, suc, ◌+◌, ◌-◌, ◌≤◌, ◌<◌, min}
use native.Mathlib.Decide.{dec_lt}
use native.Mathlib.Omega.{arith}
use lib.ListN.{length}
use lib.Dec.{ltb, eqb}
use borrow.Author.Tests.{lt-ltb, le-ltb, ltb-true, ltb-false, eqb-true}
use Rattle.numbers.specs.Signal.{pick, both}
use Rattle.numbers.proofs.Sweep as sweep
use Rattle.wavelet.specs.Limits.{max_height}
use Rattle.level.specs.Level.{Memory, LevelKind}
use Rattle.writer.specs.declared.Writer.{Writer}
use Rattle.writer.specs.Closing.{Flushed}
use Rattle.writer.specs.Taking.{kind, Taking, none, one_more, takes, begun, at_column, complete, height_put, row_makes, offering}
use Rattle.writer.specs.Spare.{spare_room, holding, moving, moved_on}
use Rattle.writer.specs.Questions.{most_column, offer_question, draw_question, finish_question}
use Rattle.writer.specs.Calls.{offered_at, waits, closing, after_draw, drawn_on}
use Rattle.writer.proofs.QuestionLaws.{Sound, most-open, taken-open}
use Rattle.writer.proofs.CallLaws.{offer-sound, draw-sound, offer-may, finish-may, moving-part, moving-whole}

abbrev pub InRange : Writer → Type 0
InRange s = s.column ≤ most_column s s.level

-- a row begun has fewer heights than columns, and none is begun where rows wait
record Begins (s : Writer) : Type 0 where
  free : s.level ≡ 0 → s.column < s.width
  waiting : 0 < s.level → s.column ≡ 0

begins-in : (s : Writer) → Begins s → InRange s
begins-in s b = go s.level refl
  where
    go : (v : ℕ) → s.level ≡ v → s.column ≤ most_column s v
    go zero e = unfold most_column in omega (arith, b.free e)
    go (suc v) e = omega (arith, b.waiting (omega arith))

-- ---- an offer
offering-begins : (K : LevelKind) (run : List ℕ) (s : Writer) (x : Memory) → 0 < s.width → Begins s → Begins (offering K run s x).writer
unfolding offering
offering-begins K [] s x p b = b
offering-begins K (h ∷ run) s x p b =
    go (takes s) (ltb (s.column + 1) s.width) refl refl
    (offering-begins K run (begun s) (height_put K h s x) p)
    (offering-begins K run (complete s (row_makes K s (height_put K h s x))) (row_makes K s (height_put K h s x)).store p
    (record { free = λ _. p; waiting = λ _. refl }))
  where
    y : Taking
    y = offering K run (begun s) (height_put K h s x)

    z : Taking
    z = offering K run (complete s (row_makes K s (height_put K h s x))) (row_makes K s (height_put K h s x)).store

    go : (t c : Bool) → takes s ≡ t → ltb (s.column + 1) s.width ≡ c → (Begins (begun s) → Begins y.writer) → Begins z.writer →
        Begins (pick t (one_more (pick c y z)) (none s x)).writer
    go false c e q k m = b
    go true false e q k m = m
    go true true e q k m =
        let v : s.level ≡ 0 = unfold takes in eqb-true s.level 0 (sweep.both (eqb s.level 0) (ltb s.rows max_height) e).0 in
        k (record { free = λ _. ltb-true _ _ q; waiting = λ w. absurd (omega arith) })

-- n is the length of the line store
module _ (s : Writer) (n : ℕ) (x : Memory) where
  pub offer-column : (run : List ℕ) → offer_question s n (length run) ≡ 0 → InRange (offered_at s.level run s x).writer
  offer-column run q = go s.level refl
    where
      f : Sound s n
      f = offer-sound s n (length run) q

      go : (v : ℕ) → s.level ≡ v → InRange (offered_at v run s x).writer
      go zero e =
          begins-in _ (offering-begins (kind s) run s x (omega (arith, f.width.0)) (record { free = f.column; waiting = λ w. absurd (omega arith) }))
      go (suc v) e = unfold holding in held
        where
          k : ℕ
          k = spare_room s (length run)

          -- where no row more can come, none stands there and none is offered
          none-held : (s.rows < max_height → ⊥) → s.column + k ≡ 0
          none-held d =
              elim (dec_lt 0 s.column) [
                | yes p ↦ absurd (d (f.may (omega arith) p).1)
                | no p ↦
                    elim (dec_lt 0 (length run)) [
                      | yes r ↦ absurd (d (omega (arith, (offer-may s n (length run) q).1 r)))
                      | no r ↦ omega (arith, p, r)
                    ]
              ]

          held : InRange (at_column s (s.column + k))
          held =
              elim (dec_lt s.rows max_height) [
                | yes d ↦
                    let w = most-open (at_column s (s.column + k)) s.level (omega arith) (offer-may s n (length run) q).0 d in
                    omega (arith, w, f.spare)
                | no d ↦ omega (arith, none-held d)
              ]

  -- ---- a draw
  moved_in : (v : ℕ) (t : Writer) (y : Memory) → t.level ≡ v → t.column ≤ t.width → 0 < t.width → (0 < v → InRange t) → InRange (moved_on v t y).writer
  unfolding moved_on
  moved_in zero t y e c w h = go (ltb t.column t.width) refl
    where
      go : (b : Bool) → ltb t.column t.width ≡ b → InRange (moving t y).writer
      go true q =
          subst (λ (k : Taking). InRange k.writer) (sym (moving-part t y q))
          (begins-in t (record { free = λ _. ltb-true _ _ q; waiting = λ p. absurd (omega arith) }))
      go false q =
          subst (λ (k : Taking). InRange k.writer) (sym (moving-whole t y q)) (begins-in _ (record { free = λ _. w; waiting = λ _. refl }))
  moved_in (suc v) t y e c w h = h (omega arith)

  -- the range of the heights in the spare row is that of the writer before, wherever rows wait
  same-most : (t : Writer) (u v : ℕ) → t.finished ≡ s.finished → t.rows ≡ s.rows → t.width ≡ s.width → most_column t (suc u) ≡ most_column s (suc v)
  unfolding most_column
  same-most t u v a b c = rw (a, b, c) refl

  pub draw-column : (k : ℕ) → draw_question s n k ≡ 0 → InRange s → 0 < s.level → InRange (drawn_on s x).writer
  draw-column k q h p =
      let f = draw-sound s n k q in
      moved_in (after_draw s x).out.level (waits s.finished s (after_draw s x)) (after_draw s x).out.store refl f.spare (omega (arith, f.width.0))
      (still s.level (after_draw s x).out.level p h)
    where
      still : (v u : ℕ) → 0 < v → s.column ≤ most_column s v → 0 < u → s.column ≤ most_column (waits s.finished s (after_draw s x)) u
      still zero u a b c = absurd (omega arith)
      still (suc v) zero a b c = absurd (omega arith)
      still (suc v) (suc u) a b c = omega (arith, b, same-most (waits s.finished s (after_draw s x)) u v refl refl refl)

  -- ---- a finish: no row is begun
  pub finish-column : finish_question s n ≡ 0 → InRange (waits true s (closing s x))
  finish-column q = omega (arith, (finish-may s n q).3)
