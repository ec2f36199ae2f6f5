-- Lists of calls on a fresh loader, whatever it is given, with step 1: one claim about a whole list, in the form of demand 3 (the reader's Demand3). The words
-- go by the calls' arguments and answers, by nothing in the state: what was taken and what was drawn are functions of the list of events alone.
use Rattle.std.specs.Prelude.{◌≡◌, ◌↔◌, Bool, true, false, List, [], ◌∷◌, ◌++◌, ℕ, suc, ◌+◌, ◌/◌, ◌≤◌, ◌<◌, ℤ, length, take, eqb}
use Rattle.numbers.specs.Signal.{pick}
use Rattle.wavelet.specs.declared.shape.Shape.{Shape}
use Rattle.wavelet.specs.Shape.{columns}
use Rattle.wavelet.specs.Bands.{Grid}
use Rattle.calls.specs.Lists.{Reply, gives, refused, unless, Area, All, gathered, ever}
use Rattle.calls.specs.Lists as lists
use Rattle.reader.specs.Demand3.{Given, heights, nothing, said, given, leaves, drawn_to, FirstRows, OneOf}
use Rattle.reader.specs.Reading.{draw_reply, draw_store, draw_area}
use Rattle.ground_file.specs.Maps.{MapOf, map_file}
use Rattle.ground_loader.specs.Loader.{World, world_of, Want, bytes, draw_now, done, ended, want_of, ran, Answer, passed, impossible, turned, take_reply}
use Rattle.ground_loader.specs.Loader.{loader_fits, want_question, take_question, draw_number, with_reader, store_needs, fresh_world}

-- ---- calls, and what is seen of them
-- a call with its arguments: a taking call is lent a line store and a row area of so many numbers each, and bytes; a draw a line store and an output area
pub data Call : Type 0 where
  want : Call
  take_bytes : ℕ → ℕ → (bs : List ℕ) → All (λ b. b < 256) bs → Call
  draw : ℕ → Area → Call

-- what a taking call answers: so many bytes were taken; the same, and then 14; or the number that turned it away
pub data Took : Type 0 where
  took fourteen away : ℕ → Took

pub data Event : Type 0 where
  wanted : Reply Want → Event
  offered : List ℕ → Took → Event
  drew : Area → Reply Given → Area → Event

abbrev pub told : Answer → Took
told (passed k l) = took k
told (impossible k l) = fourteen k
told (turned q) = away q

-- ---- each call is made on the world that the one before left. Of its areas it is lent the first numbers, as many as it says.
module _ (w : World) (n : ℕ) where
  abbrev pub take_asked : ℕ → ℕ
  take_asked m = take_question w.loader n m

  abbrev pub draw_asked : Area → ℕ
  draw_asked a = draw_number w.loader n w.store a.size

  abbrev pub area_after : Area → Area
  area_after a = record { size = a.size; numbers = draw_area w.loader.reader (draw_asked a) w.store a.numbers }

unfoldable pub event : Call → World → Event
event want w = wanted (unless (want_question w.loader) (want_of w.loader))
event (take_bytes n m bs small) w = offered bs (told (take_reply (take_asked w n m) (ran n bs w)))
event (draw n a) w = drew a (said given (draw_reply w.loader.reader (draw_asked w n a))) (area_after w n a)

unfoldable pub next : Call → World → World
next want w = w
next (take_bytes n m bs small) w = pick (eqb (take_asked w n m) 0) (ran n bs w).world w
next (draw n a) w =
    world_of (with_reader w.loader (leaves (drawn_to w.loader.reader) w.loader.reader (draw_reply w.loader.reader (draw_asked w n a))))
    (draw_store w.loader.reader (draw_asked w n a) w.store) w.row

abbrev pub events : List Call → World → List Event
events = lists.events event next

abbrev pub final : List Call → World → World
final = lists.final next

-- ---- by the events alone
-- the bytes taken, one call's after the other's
unfoldable pub taken_by : Event → List ℕ
taken_by (wanted v) = []
taken_by (offered bs (took k)) = take k bs
taken_by (offered bs (fourteen k)) = take k bs
taken_by (offered bs (away q)) = []
taken_by (drew a v b) = []

abbrev pub bytes_taken : List Event → List ℕ
bytes_taken = gathered taken_by

-- the height rows drawn, as they stand in the output areas
unfoldable pub drawn_by : Event → List (ℕ → ℤ)
drawn_by (wanted v) = []
drawn_by (offered bs v) = []
drawn_by (drew a (gives (heights n)) b) = b.numbers ∷ []
drawn_by (drew a (gives nothing) b) = []
drawn_by (drew a (refused q) b) = []

abbrev pub drawn_rows : List Event → List (ℕ → ℤ)
drawn_rows = gathered drawn_by

-- 14 was given
unfoldable pub ends : Event → Bool
ends (wanted v) = false
ends (offered bs (took k)) = false
ends (offered bs (fourteen k)) = true
ends (offered bs (away q)) = false
ends (drew a (gives v) b) = false
ends (drew a (refused q) b) = eqb q 14

abbrev pub ended_by : List Event → Bool
ended_by = ever ends

-- "an offer of a byte or more, with bytes wanted, takes at least one or gives 7, 14 or 22"
pub data Offer : Took → Type 0 where
  some : (k : ℕ) → Offer (took (suc k))
  ends_it : (k : ℕ) → Offer (fourteen k)
  seven : Offer (away 7)
  twenty_two : Offer (away 22)

-- ---- maps of the set-up's shape, and their files
module _ (s : Shape) where
  -- a map whose file begins with these bytes
  pub record Begins (g : Grid) (bs : List ℕ) : Type 0 where
    pub map : MapOf s g
    pub rest : List ℕ
    pub is : map_file s g ≡ bs ++ rest

  abbrev pub NoneBegins : List ℕ → Type 0
  NoneBegins bs = (g : Grid) → Begins g bs → ⊥

  -- the bytes taken are a map's whole file, and its heights are drawn
  pub record Whole (es : List Event) : Type 0 where
    pub map : Grid
    pub of : MapOf s map
    pub file : bytes_taken es ≡ map_file s map
    pub all : length (drawn_rows es) ≡ s.height
    pub first : FirstRows 0 (columns s) map (drawn_rows es)

  -- ---- the claim, of the events es of any list of calls; `then` is what would be seen of a further call
  pub record Holds (es : List Event) (then : Call → Event) : Type 0 where
    -- the heights drawn are the first of every map of that shape whose file begins with the bytes taken
    pub first : (g : Grid) → Begins g (bytes_taken es) → FirstRows 0 (columns s) g (drawn_rows es)
    -- a want is never turned away; it says Ended only after 14
    pub wants : (v : Want) × (then want ≡ wanted (gives v))
    pub ended_only : then want ≡ wanted (gives ended) → ended_by es ≡ true
    -- an offer of a byte or more, with bytes wanted and areas long enough
    pub offers : (n m b : ℕ) (bs : List ℕ) (small : All (λ c. c < 256) (b ∷ bs)) → then want ≡ wanted (gives bytes) → store_needs s ≤ n →
        (s.width + 1) / 2 ≤ m → (t : Took) × Offer t × (then (take_bytes n m (b ∷ bs) small) ≡ offered (b ∷ bs) t)
    -- no more are taken than are offered; the byte that brought 14 is not taken
    pub counts : (n m k : ℕ) (bs : List ℕ) (small : All (λ c. c < 256) bs) → then (take_bytes n m bs small) ≡ offered bs (took k) → k ≤ length bs
    pub counts_fourteen : (n m k : ℕ) (bs : List ℕ) (small : All (λ c. c < 256) bs) → then (take_bytes n m bs small) ≡ offered bs (fourteen k) → k < length bs
    -- 7, 22 and 14 come only where no such map's file begins with the bytes taken and the next
    pub seven_only : (n m : ℕ) (bs : List ℕ) (small : All (λ c. c < 256) bs) → then (take_bytes n m bs small) ≡ offered bs (away 7) →
        NoneBegins (bytes_taken es ++ take 1 bs)
    pub twenty_two_only : (n m : ℕ) (bs : List ℕ) (small : All (λ c. c < 256) bs) → then (take_bytes n m bs small) ≡ offered bs (away 22) →
        NoneBegins (bytes_taken es ++ take 1 bs)
    pub fourteen_only : (n m k : ℕ) (bs : List ℕ) (small : All (λ c. c < 256) bs) → then (take_bytes n m bs small) ≡ offered bs (fourteen k) →
        NoneBegins (bytes_taken es ++ take (suc k) bs)
    -- a draw at Draw, with areas long enough, gives a row or 14, and 14 only where no such map's file begins with the bytes taken
    pub draws : (n : ℕ) (a : Area) → then want ≡ wanted (gives draw_now) → store_needs s ≤ n → s.width ≤ a.size →
        (v : Reply Given) × (z : Area) × OneOf v (gives (heights s.width)) (refused 14) × (then (draw n a) ≡ drew a v z)
    pub draw_fourteen : (n : ℕ) (a z : Area) → then (draw n a) ≡ drew a (refused 14) z → NoneBegins (bytes_taken es)
    -- Done exactly when the bytes taken are such a map's whole file and all its heights are drawn
    pub finished : then want ≡ wanted (gives done) ↔ Whole es

  -- of a list of calls on a fresh loader: a state reached by calls always passes question 1, and the claim
  pub record OfCalls (x y : ℕ → ℤ) (cs : List Call) : Type 0 where
    pub in_range : loader_fits (final cs (fresh_world s 1 x y)).loader ≡ true
    pub claim : Holds (events cs (fresh_world s 1 x y)) (λ c. event c (final cs (fresh_world s 1 x y)))
