-- The numbers of a map's file are bytes (`file-bytes`). Assumes nothing.
use mathlib.Core.List.{List, [], ◌∷◌}
use Prim.Native.Nat.{ℕ, zero, suc, ◌+◌, ◌*◌, ◌/◌, ◌^◌, ◌≤◌, ◌<◌}
use native.Mathlib.Nat.{mod-lt}
use native.Mathlib.Omega.{arith}
use lib.ListN.{length, take, drop}
use Rattle.wavelet.specs.declared.shape.Shape.{Shape}
use Rattle.wavelet.specs.Bands.{Grid}
use Rattle.wavelet.specs.Asks.{by_filter}
use Rattle.wavelet.specs.Order.{RowName, times}
use Rattle.calls.specs.Lists.{All, all_none, all_more}
use Rattle.calls.proofs.AllLaws.{all_append}
use Rattle.ground_file.specs.Groups.{code_of, width_of, bytes_of, part_of, group_of, groups_of, row_bytes}
use Rattle.ground_file.specs.File.{header_of, numbers_of, rows_bytes, wanted, body_of, file_of}
use Rattle.ground_file.specs.Maps.{MapOf, plane_in, map_file}
use Rattle.ground_file.proofs.Digits.{Below}
use Rattle.ground_file.proofs.GroupLaws.{code-small, below-take, below-drop}
use Rattle.ground_file.proofs.FileLaws.{times-first, wanted-kept}
use Rattle.ground_loader.proofs.MapBytes.{small_row}

abbrev pub Bytes : List ℕ → Type 0
Bytes l = All (λ b. b < 256) l

byte : (x : ℕ) {l : List ℕ} → x < 256 → Bytes l → Bytes (x ∷ l)
byte x p q = all_more p q

bytes-of : (k n : ℕ) → Bytes (bytes_of k n)
unfolding bytes_of
bytes-of zero n = all_none
bytes-of (suc k) n = all_more (mod-lt n (omega arith)) (bytes-of k (n / 256))

part_bytes : (w : ℕ) (l : List ℕ) → Bytes (part_of w l)
unfolding part_of
part_bytes w l = bytes-of ((w * length l + 7) / 8) _

group-bytes : (l : List ℕ) → Below (2 ^ 28) l → Bytes (group_of l)
unfolding group_of
group-bytes l b =
    let p = code-small (take 8 l) (below-take (2 ^ 28) 8 l b) in
    let q = code-small (drop 8 l) (below-drop (2 ^ 28) 8 l b) in
    byte (code_of (take 8 l) + 16 * code_of (drop 8 l)) (omega (arith, p, q))
    (all_append (part_bytes (width_of (code_of (take 8 l))) (take 8 l)) (part_bytes (width_of (code_of (drop 8 l))) (drop 8 l)))

groups-bytes : (n : ℕ) (l : List ℕ) → Below (2 ^ 28) l → Bytes (groups_of n l)
unfolding groups_of
groups-bytes zero l b = all_none
groups-bytes (suc n) l b =
    all_append (group-bytes (take 16 l) (below-take (2 ^ 28) 16 l b)) (groups-bytes n (drop 16 l) (below-drop (2 ^ 28) 16 l b))

row-bytes : (l : List ℕ) → Below (2 ^ 28) l → Bytes (row_bytes l)
unfolding row_bytes
row-bytes l b = groups-bytes ((length l + 15) / 16) l b

module _ (s : Shape) (g : Grid) (m : MapOf s g) where
  rows-bytes : (l : List RowName) → ((x : RowName) → 0 < times x l → Below (2 ^ 28) (numbers_of s 1 (plane_in s g) x)) → Bytes (rows_bytes s 1 (plane_in s g) l)
  unfolding rows_bytes times
  rows-bytes [] h = all_none
  rows-bytes (x ∷ l) h = all_append (row-bytes _ (h x (times-first x l))) (rows-bytes l (λ y z. h y (omega arith)))

  levels-small : (f k : ℕ) → k ≤ by_filter f 5 4 → k < 256
  levels-small zero k p = omega arith
  levels-small (suc f) k p = omega arith

  header-bytes : Bytes (header_of s 1)
  unfolding header_of
  header-bytes =
      byte 137 (omega arith) (byte 71 (omega arith) (byte 78 (omega arith) (byte 68 (omega arith) (byte 13 (omega arith) (byte 10 (omega arith)
      (byte 26 (omega arith) (byte 10 (omega arith) (byte 1 (omega arith) (byte s.filter (omega (arith, m.filter))
      (byte s.levels (levels-small s.filter s.levels m.levels.1) (byte 1 (omega arith)
      (all_append (bytes-of 2 s.x) (all_append (bytes-of 2 s.y) (all_append (bytes-of 2 s.width) (all_append (bytes-of 4 s.height)
      (byte 0 (omega arith) (byte 0 (omega arith) all_none)))))))))))))))))

  pub file-bytes : Bytes (map_file s g)
  unfolding file_of body_of
  file-bytes =
      all_append (all_append header-bytes (rows-bytes (wanted s) (λ x h. small_row s g m x (wanted-kept s m.levels.0 x h)))) (bytes-of 4 _)
