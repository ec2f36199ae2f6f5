-- What the private functions compute. That the first trial that works is the nearest change is proved in proofs/.
use Rattle.std.specs.Prelude.{◌≡◌, Bool, true, false, not, List, ℕ, ◌+◌, ◌-◌, ◌*◌, ◌/◌, ◌%◌, min, ◌≤◌, ◌<◌, get_or, leb, ltb, eqb}
use Rattle.numbers.specs.Signal.{pick, both}
use Rattle.wavelet.specs.Limits.{max_sample}
use Rattle.nearest_change.specs.NearestChange.{Ground}
use Rattle.nearest_change.specs.declared.Change.{Change}
use Rattle.nearest_change.specs.declared.five.Five.{Five}
use Rattle.nearest_change.specs.declared.trial.Cell.{Cell}

-- ---- five numbers of a line
-- each is at most m
abbrev pub Small : ℕ → Five → Type 0
Small m f = (f.a ≤ m) × (f.b ≤ m) × (f.c ≤ m) × (f.d ≤ m) × (f.e ≤ m)

-- coordinate q − 2 of a line of n, mirrored at its ends, and the places that low value k reads
abbrev pub away : ℕ → ℕ
away q = (q - 2) + (2 - q)

unfoldable pub mirrored : ℕ → ℕ → ℕ
mirrored n q = min (away q) (2 * (n - 1) - away q)

abbrev pub places_of : ℕ → ℕ → Five
places_of n k =
    record {
      a = mirrored n (2 * k);
      b = mirrored n (2 * k + 1);
      c = mirrored n (2 * k + 2);
      d = mirrored n (2 * k + 3);
      e = mirrored n (2 * k + 4);
    }

-- their low value, by the bias larger, so that it is not negative
abbrev pub bias : ℕ
bias = 131072

unfoldable pub lifted_of : Five → ℕ
lifted_of f = f.c + (f.b + f.d + 2 + 4 * bias - (f.a + f.c) / 2 - (f.c + f.e) / 2) / 4

-- number i of the five
unfoldable pub number_of : Five → ℕ → ℕ
number_of f i = pick (eqb i 0) f.a (pick (eqb i 1) f.b (pick (eqb i 2) f.c (pick (eqb i 3) f.d f.e)))

-- the five at the places p with a new number at place q
abbrev pub replaced_of : Five → Five → ℕ → ℕ → Five
replaced_of f p q v =
    record {
      a = pick (eqb p.a q) v f.a;
      b = pick (eqb p.b q) v f.b;
      c = pick (eqb p.c q) v f.c;
      d = pick (eqb p.d q) v f.d;
      e = pick (eqb p.e q) v f.e;
    }

-- ---- five columns of five heights
-- each of the rows in each of the columns is among n heights in rows of W
abbrev pub Within : ℕ → ℕ → Five → Five → Type 0
Within n W rows columns = (i k : ℕ) → number_of rows i * W + number_of columns k < n

-- the heights of these rows and columns, column by column
abbrev pub IsWindow : Ground → Five → Five → List ℕ → Type 0
IsWindow g rows columns w = (j : ℕ) → j < 25 → get_or w j 0 ≡ g (number_of rows (j % 5)) (number_of columns (j / 5))

abbrev pub column_in : List ℕ → ℕ → Five
column_in w k =
    record {
      a = get_or w (5 * k) 0;
      b = get_or w (5 * k + 1) 0;
      c = get_or w (5 * k + 2) 0;
      d = get_or w (5 * k + 3) 0;
      e = get_or w (5 * k + 4) 0;
    }

abbrev pub lows_in : List ℕ → Five
lows_in w =
    record {
      a = lifted_of (column_in w 0);
      b = lifted_of (column_in w 1);
      c = lifted_of (column_in w 2);
      d = lifted_of (column_in w 3);
      e = lifted_of (column_in w 4);
    }

abbrev pub cell_in : List ℕ → ℕ → ℕ → ℕ → ℕ → Cell
cell_in w H W r c =
    record {
      window = w;
      height = H;
      width = W;
      row = r;
      column = c;
      rows = places_of H r;
      columns = places_of W c;
      lows = lows_in w;
      value = lifted_of (lows_in w);
    }

-- what the trials are given: heights, and numbers that fit
pub record Ready (w : List ℕ) (cell : Cell) : Type 0 where
  pub heights : (j : ℕ) → get_or w j 0 < 65536
  pub lows : Small (2 * bias) cell.lows
  pub row : cell.row < 4294967296
  pub column : cell.column < 4294967296
  pub height : cell.height < 4294967296
  pub width : cell.width < 4294967296

-- ---- a trial
-- does the cell change with the height v at row i and column k of the window?
unfoldable pub altered : List ℕ → Cell → ℕ → ℕ → ℕ → Bool
altered w cell i k v =
    not
    (eqb
    (lifted_of
    (replaced_of cell.lows cell.columns (2 * cell.column + k - 2)
    (lifted_of (replaced_of (column_in w k) cell.rows (2 * cell.row + i - 2) v))))
    cell.value)

-- with the height that stands there cut or raised, where it stays a height
unfoldable pub altered_by : List ℕ → Cell → ℕ → ℕ → Bool → ℕ → Bool
altered_by w cell i k cut by =
    pick cut
    (both (leb by (get_or w (5 * k + i) 0)) (altered w cell i k (get_or w (5 * k + i) 0 - by)))
    (both (leb (get_or w (5 * k + i) 0 + by) max_sample) (altered w cell i k (get_or w (5 * k + i) 0 + by)))

-- coordinate q − 2 is one of a line of n
abbrev pub inside : ℕ → ℕ → Bool
inside n q = both (leb 2 q) (ltb q (n + 2))

-- Trials are numbered by difference, raises before cuts, rows, columns: what trial t changes a height by, whether it is a cut, and the row and the column of
-- the window.
abbrev pub trial_by : ℕ → ℕ
trial_by t = t / 50 + 1

abbrev pub trial_cut : ℕ → Bool
trial_cut t = eqb (t / 25 % 2) 1

abbrev pub trial_row : ℕ → ℕ
trial_row t = t / 5 % 5

abbrev pub trial_column : ℕ → ℕ
trial_column t = t % 5

-- it works at a place of the map where it alters the cell
unfoldable pub tried : List ℕ → Cell → ℕ → Bool
tried w cell t =
    both (inside cell.height (2 * cell.row + trial_row t))
    (both (inside cell.width (2 * cell.column + trial_column t))
    (altered_by w cell (trial_row t) (trial_column t) (trial_cut t) (trial_by t)))

-- the change that trial t makes
unfoldable pub made_by : List ℕ → ℕ → ℕ → ℕ → Change
made_by w r c t =
    record {
      row = 2 * r + trial_row t - 2;
      column = 2 * c + trial_column t - 2;
      height =
          pick (trial_cut t) (get_or w (5 * trial_column t + trial_row t) 0 - (trial_by t)) (get_or w (5 * trial_column t + trial_row t) 0 + (trial_by t));
    }

-- t trials before it do not work, and it does, unless none of 200 does
pub record IsFirst (p : ℕ → Bool) (t : ℕ) : Type 0 where
  pub few : t ≤ 200
  pub none : (s : ℕ) → s < t → p s ≡ false
  pub works : t < 200 → p t ≡ true

-- trial t is one of 200, at a place of the map, and a cut is no greater than the height
pub record Makes (w : List ℕ) (r c t : ℕ) : Type 0 where
  pub few : t < 200
  pub row_in : (2 ≤ 2 * r + trial_row t) × (r < 4294967296)
  pub column-in : (2 ≤ 2 * c + trial_column t) × (c < 4294967296)
  pub height_in : (get_or w (5 * trial_column t + trial_row t) 0 < 65536) × (trial_cut t ≡ true → trial_by t ≤ get_or w (5 * trial_column t + trial_row t) 0)
