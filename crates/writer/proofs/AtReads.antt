-- What a writer's levels hold is in their stretches: the same holds whatever stands past them (`at_reads`). Assumes nothing.
use mathlib.Core.Bool.{Bool}
use mathlib.Core.Path.{◌≡◌, sym, ◌∙◌}
use mathlib.Core.List.{List}
use Prim.Native.Nat.{ℕ, zero, suc, ◌+◌, ◌-◌, ◌*◌, ◌≤◌, ◌<◌}
use native.Mathlib.Omega.{arith}
use Rattle.lifting.specs.Grid.{Side, side}
use Rattle.wavelet.specs.Bands.{Grid}
use Rattle.wavelet.specs.Levels.{next}
use Rattle.wavelet.proofs.StoreLaws.{store_below}
use Rattle.filters.specs.Filters.{filter_of}
use Rattle.level.specs.Level.{Memory, LevelKind, prev, rest, ahead}
use Rattle.level.proofs.RestLaws.{rest_at}
use Rattle.filters.specs.Figures.{store_by}
use Rattle.analysis.specs.Forward.{kind_of, held_of, ended_of}
use Rattle.analysis.proofs.ForwardLaws.{laws-of}
use Rattle.progress.specs.Counts.{made}
use Rattle.writer.specs.Holds.{LevelsHold, SetWaits, Holds}
use Rattle.writer.specs.History.{DrawnRow}
use Rattle.writer.proofs.CascadeHolds.{level-reads}
use Rattle.writer.proofs.StateHolds.{st}
use Rattle.writer.proofs.CallList.{At}

-- φ is the number of the filter
module _ (φ : ℕ) where
  abbrev K : LevelKind
  K = kind_of φ

  -- the rows that a level keeps
  abbrev R : ℕ
  R = (filter_of φ).rows

  abbrev Same : ℕ → Memory → Memory → Type 0
  Same n x y = (k : ℕ) → k < n → y k ≡ x k

  levels-read : (L : ℕ) (W H : Side) (g : Grid) (c v i m j : ℕ) (x y : Memory) → j ≤ W.length → Same (store_by φ W L) x y →
      LevelsHold K (held_of φ) (ended_of φ) L W H g c v i m j x → LevelsHold K (held_of φ) (ended_of φ) L W H g c v i m j y
  unfolding LevelsHold SetWaits
  levels-read zero W H g c v i m j x y h e s = s
  levels-read (suc l) W H g c v i m j x y h e s = (
    level-reads K (held_of φ) (ended_of φ) (laws-of φ) W H g x y own c m j h s.0,
    waits v s.1,
    levels-read l (next W) (next H) _ (c - ahead K) (prev v) i _ 0 (rest (R * W.length) x) (rest (R * W.length) y) (omega arith) below s.2,
  )
    where
      own : Same (R * W.length) x y
      own k p = e k (omega (arith, store_below R W l))

      below : Same (store_by φ (next W) l) (rest (R * W.length) x) (rest (R * W.length) y)
      below k p =
          rest_at (R * W.length) y k ∙ e (R * W.length + k) (omega (arith, store_below R W l)) ∙ sym (rest_at (R * W.length) x k)

      waits : (u : ℕ) → SetWaits K W H g c u i m x → SetWaits K W H g c u i m y
      waits zero t = t
      waits (suc zero) t = record {
        some_left = t.some_left;
        has = t.has;
        one = t.one;
        stands = λ b a p q r.
            own (K.place W H.start (prev (made (ahead K) c H.start m)) b + a)
            ((laws-of φ).place-in W H.start (prev (made (ahead K) c H.start m)) b a r)
            ∙ t.stands b a p q r;
      }
      waits (suc (suc u)) t = t

  pub holds-reads : (L : ℕ) (W : Side) (top H : ℕ) (g : Grid) (r c : ℕ) (f : Bool) (cl v i : ℕ) (x y : Memory) → c ≤ W.length → Same (store_by φ W L) x y →
      Holds H g (st φ W top L r c f cl v i) x → Holds H g (st φ W top L r c f cl v i) y
  holds-reads L W top H g r c f cl v i x y p e h = record {
    levels = levels-read L W (side top H) g cl v i r c x y p e h.levels;
    placed = h.placed;
    few = h.few;
    idle = h.idle;
    before = h.before;
    ended = h.ended;
  }

  pub at_reads : (L : ℕ) (W : Side) (top : ℕ) (ts : List ℕ) (f : Bool) (ds : List DrawnRow) (r c cl v i : ℕ) (x y : Memory) → Same (store_by φ W L) x y →
      At φ L W top ts f ds r c cl v i x → At φ L W top ts f ds r c cl v i y
  at_reads L W top ts f ds r c cl v i x y e a = record {
    counted = a.counted;
    column-in = a.column-in;
    rows-in = a.rows-in;
    room = a.room;
    ended = a.ended;
    sound = λ H g t. let s = a.sound H g t in record {
      holds = holds-reads L W top H g r c f cl v i x y (omega (arith, a.column-in)) e s.holds;
      names = s.names;
      named = s.named;
      order = s.order;
      values = s.values;
    };
    prior = a.prior;
    early = a.early;
  }
