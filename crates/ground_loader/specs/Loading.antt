-- A file loaded as a loader wants it: bytes of the file where it wants bytes, cut anywhere, and a draw where it says Draw. `want` may be asked at any time and
-- changes nothing, so it is no call of the list.
use Rattle.std.specs.Prelude.{◌≡◌, List, [], ◌∷◌, ◌++◌, ℕ, zero, suc, ◌+◌, ◌<◌, length, take, drop}
use Rattle.wavelet.specs.declared.shape.Shape.{Shape}
use Rattle.wavelet.specs.Shape.{columns}
use Rattle.wavelet.specs.Bands.{Grid}
use Rattle.calls.specs.Lists.{gives, refused, Area, All, all_none, all_more}
use Rattle.reader.specs.Demand3.{FirstRows}
use Rattle.ground_file.specs.Maps.{map_file}
use Rattle.ground_loader.specs.Loader.{World, Want, bytes, draw_now, done, ended}
use Rattle.ground_loader.specs.LoaderLists.{Call, want, take_bytes, draw, Event, wanted, offered, drew, event, events, final, bytes_taken, drawn_rows}

-- k bytes of a file from place j on are bytes
abbrev pub part : (j k : ℕ) {bs : List ℕ} → All (λ b. b < 256) bs → All (λ b. b < 256) (take k (drop j bs))
part zero zero small = all_none
part zero (suc k) all_none = all_none
part zero (suc k) (all_more p small) = all_more p (part zero k small)
part (suc j) zero all_none = all_none
part (suc j) (suc k) all_none = all_none
part (suc j) k (all_more p small) = part j k small

-- lent a line store of n numbers and a row area of m; in turn i an offer has cuts i bytes after the first, if there are so many, and a draw the area outs i
module _ (n m : ℕ) (cuts : ℕ → ℕ) (outs : ℕ → Area) (file : List ℕ) (small : All (λ b. b < 256) file) where
  -- the calls that an answer to `want` asks for, where j bytes of the file were taken
  unfoldable pub as_wanted : ℕ → ℕ → Want → List Call
  as_wanted i j bytes = take_bytes n m (take (suc (cuts i)) (drop j file)) (part j (suc (cuts i)) small) ∷ []
  as_wanted i j draw_now = draw n (outs i) ∷ []
  as_wanted i j done = []
  as_wanted i j ended = []

  unfoldable pub answering : ℕ → ℕ → Event → List Call
  answering i j (wanted (gives v)) = as_wanted i j v
  answering i j (wanted (refused q)) = []
  answering i j (offered bs t) = []
  answering i j (drew a v b) = []

  -- so many turns
  unfoldable pub loaded : ℕ → ℕ → World → List Call
  loaded zero j w = []
  loaded (suc i) j w =
      answering i j (event want w)
      ++ loaded i (j + length (bytes_taken (events (answering i j (event want w)) w))) (final (answering i j (event want w)) w)

-- every byte of the map's file was taken and every height of the map was drawn, in order; then Done is said
pub record Back (s : Shape) (g : Grid) (es : List Event) (then : Call → Event) : Type 0 where
  pub file : bytes_taken es ≡ map_file s g
  pub all : length (drawn_rows es) ≡ s.height
  pub heights : FirstRows 0 (columns s) g (drawn_rows es)
  pub says : then want ≡ wanted (gives done)
