-- Rows fed and their bytes, beside the file of a map: a file that begins with the header and the bytes of rows is that of a map which has these rows
-- (`map-split`), and the bytes of all its rows are its body (`map-body`). Assumes nothing.
use mathlib.Core.Path.{◌≡◌, refl, sym, ap, ap₂, ◌∙◌, subst}
use mathlib.Core.List.{List, [], ◌∷◌, ◌++◌, append-nil, append_assoc}
use Prim.Native.Nat.{ℕ, ◌+◌, ◌%◌, ◌^◌, ◌<◌}
use native.Mathlib.Omega.{arith}
use lib.IntN.{ℤ}
use lib.ListN.{length, get_or}
use Rattle.numbers.specs.Signal.{pick}
use Rattle.numbers.specs.Word.{whole}
use Rattle.wavelet.specs.declared.shape.Shape.{Shape}
use Rattle.wavelet.specs.Shape.{columns, rows}
use Rattle.wavelet.specs.Bands.{Grid}
use Rattle.wavelet.specs.Levels.{level_band}
use Rattle.wavelet.specs.Order.{RowName, same_name, times}
use Rattle.wavelet.specs.View.{band_columns, band_start, Kept}
use Rattle.wavelet.proofs.PlaneLayout.{plane-places}
use Rattle.filters.specs.Filters.{filter_of}
use Rattle.calls.specs.Lists.{All, all_none, all_more}
use Rattle.reader.specs.Demand3.{FedRow, HasRow}
use Rattle.reader.proofs.Reached.{names_of}
use Rattle.ground_file.specs.Groups.{zigzag, bytes_of, row_bytes}
use Rattle.ground_file.specs.File.{header_of, stored, listed, numbers_of, rows_bytes, wanted, body_of, prime, as_number, file_of}
use Rattle.ground_file.specs.Maps.{MapOf, plane_in, map_file}
use Rattle.ground_file.proofs.Digits.{Below, append-is}
use Rattle.ground_file.proofs.GroupLaws.{row_told}
use Rattle.ground_file.proofs.FileLaws.{zigzag-told, listed-length, listed_at, listed_below, listed_same, times-first, wanted-kept}
use Rattle.ground_file.proofs.MapFiles.{stored_one, map-fits}

-- ---- the bytes of rows fed
abbrev pub fed_numbers : FedRow → List ℕ
fed_numbers u = listed u.run.size (λ i. zigzag (u.run.numbers i))

unfoldable pub fed_bytes : List FedRow → List ℕ
fed_bytes [] = []
fed_bytes (u ∷ fs) = row_bytes (fed_numbers u) ++ fed_bytes fs

pub bytes-more : (fs : List FedRow) (u : FedRow) → fed_bytes (fs ++ (u ∷ [])) ≡ fed_bytes fs ++ row_bytes (fed_numbers u)
unfolding fed_bytes
bytes-more [] u = append-nil (row_bytes (fed_numbers u))
bytes-more (v ∷ fs) u =
    ap (λ r. row_bytes (fed_numbers v) ++ r) (bytes-more fs u) ∙ sym (append_assoc (row_bytes (fed_numbers v)) (fed_bytes fs) (row_bytes (fed_numbers u)))

pub times-later : (x : RowName) (a b : List RowName) → 0 < times x b → 0 < times x (a ++ b)
unfolding times
times-later x [] b h = h
times-later x (y ∷ a) b h = let r = times-later x a b h in omega (arith, r)

module _ (s : Shape) where
  -- what is known of each: its length, and that its numbers have room
  pub record Sized (u : FedRow) : Type 0 where
    pub size : u.run.size ≡ band_columns (columns s) u.row.level u.row.band
    pub below : Below (2 ^ 28) (fed_numbers u)

  abbrev Keeps : RowName → Type 0
  Keeps x = Kept (columns s) (rows s) s.levels x.level x.band x.row

  module _ (g : Grid) (m : MapOf s g) where
    abbrev plane : ℕ → ℤ
    plane = plane_in s g

    abbrev Has : FedRow → Type 0
    Has = HasRow s.filter (columns s) (rows s) g

    pub small_row : (x : RowName) → Keeps x → Below (2 ^ 28) (numbers_of s 1 plane x)
    unfolding numbers_of
    small_row x k = listed_below (2 ^ 28) _ _ (λ i l. (map-fits s g m).small x.level x.band x.row i k l)

    -- a value of the map's plane
    value-is : (x : RowName) → Keeps x → (i : ℕ) → i < band_columns (columns s) x.level x.band
        → stored 1 x.band (plane (band_start (columns s) (rows s) x.level x.band x.row + i))
        ≡ level_band (filter_of s.filter) whole (columns s) (rows s) g x.level x.band x.row i
    value-is x k i l =
        stored_one x.band _
        ∙ plane-places (filter_of s.filter) whole s.levels (columns s) (rows s) g x.level x.band x.row i
        (record { deep = k.deep; most = k.most; last = k.last; row = k.row; column = l })

    numbers-has : (u : FedRow) → Keeps u.row → Sized u → fed_numbers u ≡ numbers_of s 1 plane u.row → Has u
    unfolding numbers_of
    numbers-has u k z e =
        record {
          size = z.size;
          values = λ i l.
              zigzag-told _ _ (sym (listed_at _ (λ j. zigzag (u.run.numbers j)) i (subst (λ n. i < n) (sym z.size) l))
              ∙ ap (λ n. get_or n i 0) e ∙ listed_at _ _ i l)
              ∙ value-is u.row k i l;
        }

    pub has-numbers : (u : FedRow) → Keeps u.row → Has u → fed_numbers u ≡ numbers_of s 1 plane u.row
    unfolding numbers_of
    has-numbers u k h =
        ap (λ n. listed n (λ i. zigzag (u.run.numbers i))) h.size
        ∙ listed_same _ _ _ (λ i l. ap zigzag (h.values i l ∙ sym (value-is u.row k i l)))

    -- one row, followed by others
    pub row_has : (u : FedRow) {t v : List ℕ} → Keeps u.row → Sized u → row_bytes (fed_numbers u) ++ t ≡ row_bytes (numbers_of s 1 plane u.row) ++ v
        → Has u × (t ≡ v)
    row_has u k z e =
        let told = row_told (fed_numbers u) (numbers_of s 1 plane u.row) (sizes k) z.below (small_row u.row k) e in
        (numbers-has u k z told.0, told.1)
      where
        sizes : Keeps u.row → length (fed_numbers u) ≡ length (numbers_of s 1 plane u.row)
        sizes k = unfold numbers_of in (listed-length _ _ ∙ z.size ∙ sym (listed-length _ _))

    rows_split : (fs : List FedRow) (names : List RowName) (v u : List ℕ) → All Sized fs → ((x : RowName) → 0 < times x (names_of fs ++ names) → Keeps x)
        → fed_bytes fs ++ v ≡ rows_bytes s 1 plane (names_of fs ++ names) ++ u → All Has fs × (v ≡ rows_bytes s 1 plane names ++ u)
    unfolding fed_bytes rows_bytes times
    rows_split [] names v u all_none keeps e = (all_none, e)
    rows_split (f ∷ fs) names v u (all_more z zs) keeps e =
        let this =
        row_has f (keeps f.row (times-first f.row (names_of fs ++ names))) z
        (sym (append_assoc (row_bytes (fed_numbers f)) (fed_bytes fs) v) ∙ e
        ∙ append_assoc (row_bytes (numbers_of s 1 plane f.row)) (rows_bytes s 1 plane (names_of fs ++ names)) u) in
        let others = rows_split fs names v u zs (λ x h. keeps x (later x h)) this.1 in
        (all_more this.0 others.0, others.1)
      where
        later : (x : RowName) → 0 < times x (names_of fs ++ names) → 0 < pick (same_name x f.row) 1 0 + times x (names_of fs ++ names)
        later x h = omega arith

    rows_same : (fs : List FedRow) → ((x : RowName) → 0 < times x (names_of fs) → Keeps x) → All Has fs → fed_bytes fs ≡ rows_bytes s 1 plane (names_of fs)
    unfolding fed_bytes rows_bytes times
    rows_same [] keeps all_none = refl
    rows_same (f ∷ fs) keeps (all_more h hs) =
        ap₂ (λ n r. row_bytes n ++ r) (has-numbers f (keeps f.row (times-first f.row (names_of fs))) h)
        (rows_same fs (λ x z. keeps x (later x z)) hs)
      where
        later : (x : RowName) → 0 < times x (names_of fs) → 0 < pick (same_name x f.row) 1 0 + times x (names_of fs)
        later x h = omega arith

    abbrev pub sum_of_map : List ℕ
    sum_of_map = bytes_of 4 (as_number 0 (body_of s 1 plane) % prime)

    keeps-names : (a : List RowName) → a ≡ wanted s → (x : RowName) → 0 < times x a → Keeps x
    keeps-names a e x h = wanted-kept s m.levels.0 x (subst (λ b. 0 < times x b) e h)

    -- a file that begins with the header and the bytes of rows: these are the map's, and what follows is the bytes of its other rows and the checksum
    pub map-split : (fs : List FedRow) (names : List RowName) (v : List ℕ) → All Sized fs → names_of fs ++ names ≡ wanted s
        → map_file s g ≡ header_of s 1 ++ (fed_bytes fs ++ v) → All Has fs × (v ≡ rows_bytes s 1 plane names ++ sum_of_map)
    unfolding file_of body_of
    map-split fs names v zs e h =
        let all = sym h ∙ append_assoc (header_of s 1) (rows_bytes s 1 plane (wanted s)) sum_of_map in
        let after = (append-is (header_of s 1) (header_of s 1) refl all).1 in
        rows_split fs names v sum_of_map zs (keeps-names (names_of fs ++ names) e) (after ∙ ap (λ a. rows_bytes s 1 plane a ++ sum_of_map) (sym e))

    -- the bytes of all its rows are its body
    pub map-body : (fs : List FedRow) → names_of fs ≡ wanted s → All Has fs → header_of s 1 ++ fed_bytes fs ≡ body_of s 1 plane
    unfolding body_of
    map-body fs e hs = ap (λ r. header_of s 1 ++ r) (rows_same fs (keeps-names (names_of fs) e) hs ∙ ap (rows_bytes s 1 plane) e)
