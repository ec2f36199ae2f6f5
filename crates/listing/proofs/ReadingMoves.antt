-- A byte read, or heights offered together: the moves. Assumes nothing.
use mathlib.Core.Path.{◌≡◌, refl, sym, ap, ◌∙◌, subst}
use mathlib.Core.Bool.{Bool, true, false}
use mathlib.Core.List.{List, [], ◌∷◌, ◌++◌, append_assoc}
use Prim.Native.Nat.{ℕ, zero, suc, ◌+◌, ◌*◌, ◌≤◌, ◌<◌, min}
use native.Mathlib.Omega.{arith}
use native.Mathlib.Numerals.{add-one}
use lib.Dec.{ltb}
use lib.ListN.{length, take, drop, get_or, length-append, length-drop, take-append-drop}
use lib.Seq.{drop-cons, drop-drop, take-take, length-take-le, take_at}
use Rattle.numbers.specs.Signal.{pick}
use Rattle.pgm.specs.Runs.{sample_size, heights_of}
use Rattle.pgm.proofs.RunReads.{heights-first, bytes-room, bytes-more}
use Rattle.calls.specs.Lists.{gives, refused, unless, changed_unless}
use Rattle.level.specs.Level.{Memory, LevelKind}
use Rattle.writer.specs.Taking.{kind, Taking, one_more, takes, begun, complete, height_put, row_makes, offering}
use Rattle.writer.specs.Questions.{offer_question}
use Rattle.writer.specs.Answers.{Took}
use Rattle.writer.specs.Calls.{offered_at, took, offer_reply, offer_store}
use Rattle.writer.specs.Spare.{holding}
use Rattle.writer.specs.declared.Writer.{Writer}
use Rattle.writer.proofs.CallLaws.{offer-takes}
use Rattle.writer.proofs.Reached.{takes_one}
use Rattle.listing.specs.Moves.{Idle, largest_on, read_byte, takes as offers, Reads}
use Rattle.pgm.specs.InputSteps.{heights_came}
use Rattle.listing.specs.States.{Leaves, State, state_of, draw_state, read_state}
use Rattle.pgm.specs.declared.input.Input.{Input}
use Rattle.listing.specs.declared.listing.Listing.{Listing}
use Rattle.text.proofs.MoveLaws.{one}
use Rattle.listing.proofs.NextLaws.{is_some}
use Rattle.listing.proofs.WritingMoves.{left_is}

-- ---- a byte
pub byte-on : (n k : ℕ) (s : State) (p : List ℕ) (a : ℕ) (l : Listing) {x z : Memory} → Idle s → a < length p
    → Leaves (read_state n k (get_or p a 0) s) l x z → Reads n k s p a (a + 1) (state_of l x z)
byte-on n k s p a l i h f =
    record {
      bytes = get_or p a 0 ∷ [];
      goes = one (read_byte (get_or p a 0) i refl refl (left_is f));
      read = drop-cons p a 0 h ∙ ap (λ m. get_or p a 0 ∷ drop m p) (sym (add-one a));
      used = refl;
      part = omega arith;
      some = omega arith;
    }

-- ---- how many heights an offer takes: at most those that there are, and one of them if it passes
also : (b c : Bool) (t u v : Taking) (m : ℕ) → t.taken ≤ m → u.taken ≤ m → v.taken ≡ 0 → (pick b (one_more (pick c t u)) v).taken ≤ suc m
also true true t u v m f g h = omega arith
also true false t u v m f g h = omega arith
also false c t u v m f g h = omega arith

taken-most : (K : LevelKind) (run : List ℕ) (s : Writer) (x : Memory) → (offering K run s x).taken ≤ length run
unfolding offering
taken-most K [] s x = omega arith
taken-most K (h ∷ run) s x =
    also (takes s) (ltb (s.column + 1) s.width) _ _ _ (length run)
    (taken-most K run (begun s) (height_put K h s x))
    (taken-most K run (complete s (row_makes K s (height_put K h s x))) (row_makes K s (height_put K h s x)).store)
    refl

taken-all : (v : ℕ) (run : List ℕ) (s : Writer) (x : Memory) → (offered_at v run s x).taken ≤ length run
unfolding holding
taken-all zero run s x = taken-most (kind s) run s x
taken-all (suc v) run s x = omega arith

taken-some : (v : ℕ) (run : List ℕ) (s : Writer) (n : ℕ) (x : Memory) → s.level ≡ v → v ≡ 0 → 0 < length run → offer_question s n (length run) ≡ 0 →
    0 < (offered_at v run s x).taken
taken-some zero run s n x e z h q = takes_one (kind s) run s x (offer-takes s n (length run) q e h) h
taken-some (suc v) run s n x e z h q = absurd (omega arith)

-- ---- the answer of an offer
yes : {A : Type 0} (q : ℕ) (a b : A) → gives b ≡ unless q a → (q ≡ 0) × (b ≡ a)
yes zero a b e = (refl, cc)
yes (suc q) a b e = let z : ◌≡◌ {A = ℕ} 0 1 = cc in absurd (omega arith)

kept : {A : Type 0} (q r : ℕ) (a : A) (x y : Memory) → refused r ≡ unless q a → changed_unless q y x ≡ x
kept zero r a x y e = let z : ◌≡◌ {A = ℕ} 0 1 = cc in absurd (omega arith)
kept (suc q) r a x y e = refl

pub offer-kept : (s : Writer) (n r : ℕ) (run : List ℕ) (x : Memory) → refused r ≡ offer_reply s n run x → offer_store s n run x ≡ x
unfolding offer_reply offer_store
offer-kept s n r run x e = kept (offer_question s n (length run)) r (took (offered_at s.level run s x)) x (offered_at s.level run s x).store e

record Passed (s : Writer) (run : List ℕ) (j : Took) : Type 0 where
  pub most : j.taken ≤ length run
  pub some : s.level ≡ 0 → 0 < length run → 0 < j.taken

passed : (s : Writer) (n : ℕ) (run : List ℕ) (x : Memory) (j : Took) → gives j ≡ offer_reply s n run x → Passed s run j
unfolding offer_reply
passed s n run x j e =
    let y = yes (offer_question s n (length run)) (took (offered_at s.level run s x)) j e in
    rw y.1 (record { most = taken-all s.level run s x; some = λ z h. taken-some s.level run s n x refl z h y.0 })

-- ---- heights together
heights-size : (m : ℕ) (s : List ℕ) (c : ℕ) → c ≤ length (heights_of m s) → length (heights_of m (take (sample_size m * c) s)) ≡ c
heights-size m s c h = ap length (heights-first m s c) ∙ length-take-le c (heights_of m s) h

-- a run is c heights of the piece p from place a on, no more than are still to come
pub record Run (s : State) (p : List ℕ) (a c : ℕ) (run : List ℕ) : Type 0 where
  pub heights : run ≡ heights_of (largest_on s) (take (sample_size (largest_on s) * c) (drop a p))
  pub left : c ≤ s.listing.input.left
  pub some : 0 < c
  pub there : c ≤ length (heights_of (largest_on s) (drop a p))
  pub place : a ≤ length p

-- a part of m places was lent to read n heights and came back
module _ (run part : List ℕ) (m n : ℕ) (fits : m ≤ length run) (same : length part ≡ length (take m run)) where
  pub back-size : length (part ++ drop m run) ≡ length run
  back-size = length-append part (drop m run) ∙ simp length-drop (omega (arith, length-take-le m run fits))

  pub back-room : n ≤ length (take m run) → n ≤ length (part ++ drop m run)
  back-room h = omega (arith, back-size, length-take-le m run fits)

pub run-read : (s : State) (p run part : List ℕ) (a m n : ℕ) → m ≡ min s.listing.input.left (length run) → (n ≡ 0 → ⊥) → a + 2 ≤ length p
    → n ≡ min (length (heights_of (largest_on s) (drop a p))) (length (take m run)) → part ≡ take n (heights_of (largest_on s) (drop a p)) ++ drop n (take m run)
    → Run s p a n (take n (part ++ drop m run))
run-read s p run part a m n em some hp en ep =
    let hs : List ℕ = heights_of (largest_on s) (drop a p) in
    let size : length (take m run) ≡ m = length-take-le m run (omega arith) in
    let there : n ≤ length (heights_of (largest_on s) (drop a p)) = omega arith in
    record {
      heights =
          ap (λ x. take n (x ++ drop m run)) ep
          ∙ ap (take n) (append_assoc (take n hs) (drop n (take m run)) (drop m run))
          ∙ take_at (take n hs) (drop n (take m run) ++ drop m run) n (length-take-le n hs there)
          ∙ sym (heights-first (largest_on s) (drop a p) n);
      left = omega arith;
      some = is_some some;
      there = there;
      place = omega arith;
    }

module _ (n k : ℕ) (s : State) (p : List ℕ) (a c : ℕ) (run : List ℕ) (j : Took) (r : Run s p a c run)
    (reply : gives j ≡ offer_reply s.listing.writer n run s.store) where
  abbrev m₀ : ℕ
  m₀ = largest_on s

  abbrev bytes : List ℕ
  bytes = take (sample_size m₀ * c) (drop a p)

  count : length run ≡ c
  count = ap length r.heights ∙ heights-size m₀ (drop a p) c r.there

  -- the bytes of the heights taken
  abbrev used : ℕ
  used = sample_size m₀ * j.taken

  most : j.taken ≤ c
  most = omega (arith, (passed s.listing.writer n run s.store j reply).most, count)

  in-drop : used ≤ length (drop a p)
  in-drop = bytes-room m₀ (drop a p) j.taken (omega (arith, most, r.there))

  pub taken-room : a + used ≤ length p
  taken-room = in-piece used in-drop
    where
      in-piece : (z : ℕ) → z ≤ length (drop a p) → a + z ≤ length p
      in-piece z h = omega (arith, length-drop a p, r.place)

  pub heights-on : (m : ℕ) (i : Input) (x₁ : Memory) (l : Listing) {x' z' : Memory} → Idle s → s.listing.input.phase ≡ 3
      → s.listing.input.samples.half ≡ false → s.listing.writer.level ≡ 0
      → m ≡ n → i ≡ heights_came j.taken s.listing.input → x₁ ≡ offer_store s.listing.writer n run s.store
      → Leaves (draw_state m k i j.writer x₁ s.row) l x' z' → Reads n k s p a (a + used) (state_of l x' z')
  heights-on m i x₁ l {x'} {z'} idle phase whole free em ei ex f =
      let y = passed s.listing.writer n run s.store j reply in
      let some : 0 < j.taken = y.some free (omega (arith, count, r.some)) in
      let cut : take used bytes ≡ take used (drop a p) = take-take used (sample_size m₀ * c) (drop a p) (bytes-more m₀ j.taken c most).0 in
      let size : length (take used bytes) ≡ used = ap length cut ∙ length-take-le used (drop a p) in-drop in
      record {
        bytes = take used bytes;
        goes =
            one
            (offers bytes j idle phase whole
            (omega (arith, sym (ap length r.heights), count, r.left))
            (ap (λ y. offer_reply s.listing.writer n y s.store) (sym r.heights) ∙ sym reply)
            some refl refl
            (left_is f ∙ cc (em, ei, ex, r.heights)));
        read = sym (ap (λ y. y ++ drop (a + used) p) cut ∙ ap (λ y. take used (drop a p) ++ y) (sym (drop-drop used a p)) ∙ take-append-drop used (drop a p));
        used = ap (λ y. a + y) (sym size);
        part = taken-room;
        some = past used (bytes-more m₀ j.taken c most).1 some;
      }
    where
      past : (z : ℕ) → j.taken ≤ z → 0 < j.taken → a < a + z
      past z h g = omega arith

-- an offer that was turned away left the store as it was
pub still-there : {n n' k : ℕ} {l : Listing} {x x' z : Memory} {p : List ℕ} {a a' : ℕ} {s' : State} → n' ≡ n → x' ≡ x
    → Reads n' k (state_of l x' z) p a a' s' → Reads n k (state_of l x z) p a a' s'
still-there {n} {n'} {k} {l} {x} {x'} {z} {p} {a} {a'} {s'} en ex r =
    subst (λ y. Reads n k (state_of l y z) p a a' s') ex (subst (λ y. Reads y k (state_of l x' z) p a a' s') en r)
