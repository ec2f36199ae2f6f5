-- What waits, seen from the levels above. Assumes nothing.
use Rattle.std.proofs.Common.{◌≡◌, ℕ, ◌+◌, ◌%◌, ◌^◌, ◌<◌, sym, refl, ◌∙◌, mod-eq_of_lt, arith, eq-eqb, ne_eqb}
use native.Mathlib.Decide.{dec_lt}
use Rattle.progress.specs.declared.waits.Wait.{Wait}
use Rattle.progress.specs.Waits.{seen_from, seen_in_words}
use Rattle.progress.proofs.CountLaws.{deeper-by-none, deeper-by-some, further-none, further-some}

module _ (k a : ℕ) (r : Wait) where
  pub seen_none : r.level ≡ 0 → ◌≡◌ {A = Wait} (record { level = 0; left = r.left; offset = 0 }) (seen_from k a r)
  seen_none e = rw (sym (deeper-by-none k r.level e), sym (further-none r.level a r.offset e)) refl

  pub seen-some : (v o : ℕ) → 0 < r.level → k + r.level < 2 ^ 64 → a + r.offset < 2 ^ 64 → v ≡ (k + r.level) % 2 ^ 64 → o ≡ (a + r.offset) % 2 ^ 64 →
      ◌≡◌ {A = Wait} (record { level = v; left = r.left; offset = o }) (seen_from k a r)
  seen-some v o h fv fo ev eo =
      let p : k + r.level ≡ r.level + k = omega arith in
      rw (ev ∙ mod-eq_of_lt fv ∙ p ∙ deeper-by-some k r.level h, eo ∙ mod-eq_of_lt fo ∙ further-some r.level a r.offset h) refl

  -- in words, and where the sums fit them what the definition says
  pub words-none : r.level ≡ 0 → ◌≡◌ {A = Wait} (record { level = 0; left = r.left; offset = 0 }) (seen_in_words k a r)
  words-none e = rw (eq-eqb r.level 0 e) refl

  pub words-some : (v o : ℕ) → (r.level ≡ 0 → ⊥) → v ≡ (k + r.level) % 2 ^ 64 → o ≡ (a + r.offset) % 2 ^ 64
      → ◌≡◌ {A = Wait} (record { level = v; left = r.left; offset = o }) (seen_in_words k a r)
  words-some v o d ev eo = rw (ne_eqb r.level 0 d, ev, eo) refl

pub seen-fits : {q : Wait} (k a : ℕ) (r : Wait) → q ≡ seen_in_words k a r → (k + r.level < 2 ^ 64) × (a + r.offset < 2 ^ 64) → q ≡ seen_from k a r
seen-fits k a r e h =
    elim (dec_lt 0 r.level) [
      | yes p ↦
          let n : r.level ≡ 0 → ⊥ = λ z. omega arith in
          e ∙ sym (words-some k a r _ _ n refl refl) ∙ seen-some k a r _ _ p h.0 h.1 refl refl
      | no p ↦ let z : r.level ≡ 0 = omega arith in e ∙ sym (words-none k a r z) ∙ seen_none k a r z
    ]
