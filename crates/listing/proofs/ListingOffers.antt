-- The head is there (`begin-reached`), heights are offered (`offered-begun`), a question says no (`turned-begun`): what a listing has reached then.
-- Assumes nothing.
use mathlib.Core.Path.{◌≡◌, refl, sym, ap, subst, ◌∙◌}
use mathlib.Core.Bool.{Bool, true, false}
use mathlib.Core.List.{List, [], ◌∷◌, ◌++◌, map, map-append, append-nil}
use Prim.Native.Nat.{ℕ, zero, suc, ◌+◌, ◌*◌, ◌≤◌, ◌<◌}
use native.Mathlib.Omega.{arith}
use lib.ListN.{length, take}
use Rattle.lifting.specs.Grid.{side}
use Rattle.wavelet.specs.Limits.{max_levels, max_height}
use Rattle.level.specs.Level.{Memory}
use Rattle.writer.specs.Questions.{set_up_question}
use Rattle.calls.specs.Lists.{gives, all_none}
use Rattle.writer.specs.Answers.{Took}
use Rattle.writer.specs.Calls.{fresh, set_up_reply, set_up_store, offer_reply, offer_store}
use Rattle.writer.specs.declared.Writer.{Writer}
use Rattle.text.specs.Refusal.{refused_line, answer_line}
use Rattle.listing.specs.Lines.{size_line}
use Rattle.pgm.specs.Limits.{max_picture_width, max_picture_height, size_fits}
use Rattle.pgm.proofs.LimitLaws.{size-fits}
use Rattle.listing.specs.Parts.{no_line, size_part}
use Rattle.listing.specs.States.{map_store, State, state_of, listed, refused_to, draw_state, begin_state, offer_state}
use Rattle.listing.specs.Moves.{line_on, Idle}
use Rattle.listing.specs.Events.{begins, height, refusal}
use Rattle.pgm.specs.declared.input.Input.{Input}
use Rattle.listing.proofs.DrawnText.{drawn_text}
use Rattle.listing.proofs.LineLeft.{left-none, left-size, left-refused}
use Rattle.listing.proofs.WriterRan.{fresh-ran, fresh-waits}
use Rattle.listing.proofs.WriterTakes.{OfferOut, offer-out}
use Rattle.listing.proofs.ListingReached.{ShapeIn, reads, left_to, Begun, events_of, Reached, begun, set-up-in, drawn-input, draw-begun}

-- ---- small facts
-- the writer takes what the listing takes
listed-low : max_picture_height ≤ max_height
unfolding max_picture_height max_height
listed-low = omega arith

pub shape-in : (W H L : ℕ) → size_fits W H ≡ true → 1 ≤ L → L ≤ max_levels → ShapeIn W H L
shape-in W H L e a b =
    let f = size-fits W H e in
    record {
      some-columns = f.columns.0;
      columns = f.columns.1;
      some-rows = f.rows.0;
      rows = omega (arith, f.rows.1, listed-low);
      some-levels = a;
      levels = b;
    }

pub idle-text : (k : ℕ) (s : State) (o t : List ℕ) → Idle s → o ++ left_to k s ≡ t → o ≡ t
idle-text k s o t i e = sym (append-nil o) ∙ ap (λ y. o ++ y) (sym (left-none k s.row (line_on s) i)) ∙ e

module _ (W H L : ℕ) (hs : List ℕ) where
  pub more-heights : (vs : List ℕ) → events_of W H L hs 0 ++ map height vs ≡ events_of W H L (hs ++ vs) 0
  more-heights vs =
      ap (λ l. begins (record { width = W; height = H; levels = L }) ∷ l)
      (ap (λ l. l ++ map height vs) (append-nil (map height hs)) ∙ sym (map-append height hs vs) ∙ sym (append-nil (map height (hs ++ vs))))

  pub then-refused : (q : ℕ) → 0 < q → events_of W H L hs 0 ++ (refusal q ∷ []) ≡ events_of W H L hs q
  then-refused zero h = absurd (omega arith)
  then-refused (suc q) h = ap (λ l. begins (record { width = W; height = H; levels = L }) ∷ (l ++ (refusal (suc q) ∷ []))) (append-nil (map height hs))

-- the same writer and store, no line
pub still : (n k W H L : ℕ) (hs : List ℕ) (number : ℕ) (f : Bool) (o : List ℕ) (s : State) (i : Input) → Idle s → Begun n k W H L hs number f o s
    → Begun n k W H L hs number f o (state_of (listed i s.listing.writer no_line) s.store s.row)
still n k W H L hs number f o s i e b = record {
  drawn = b.drawn;
  ran = b.ran;
  text = ap (λ y. o ++ y) (left-none k s.row no_line refl) ∙ append-nil o ∙ idle-text k s o _ e b.text;
  idle = λ _. b.idle (omega arith);
  last = λ _. omega arith;
  room = λ _. omega arith;
}

-- a refusal
said : (q : ℕ) → 0 < q → refused_line q ≡ answer_line q
said zero h = absurd (omega arith)
said (suc q) h = refl

pub turned-begun : (n k W H L : ℕ) (hs : List ℕ) (f : Bool) (o : List ℕ) (s : State) (i : Input) (q : ℕ) → 0 < q → Idle s → Begun n k W H L hs 0 f o s
    → Begun n k W H L hs q f o (state_of (refused_to i s.listing.writer q) s.store s.row)
turned-begun n k W H L hs f o s i q some e b = record {
  drawn = b.drawn;
  ran = b.ran;
  text =
      ap (λ y. o ++ y) (left-refused k s.row q ∙ said q some)
      ∙ ap (λ y. y ++ answer_line q) (idle-text k s o _ e b.text ∙ append-nil (size_line W H L ++ drawn_text b.drawn));
  idle = λ _. b.idle (omega arith);
  last = λ _. omega arith;
  room = λ h. absurd (omega arith);
}

module _ (n k : ℕ) (store : map_store ≤ n) (row : max_picture_width ≤ k) where
  -- ---- the head is there
  begin-is : (i : Input) (w : Writer) (W H : ℕ) (x z : Memory) → set_up_question 0 (side 0 W) i.levels n ≡ 0
      → begin_state n i w W H x z ≡ state_of (listed i (fresh 0 (side 0 W) 0 i.levels) (size_part W H i.levels)) (set_up_store 0 (side 0 W) i.levels n x) z
  unfolding begin_state set_up_reply
  begin-is i w W H x z e = rw e refl

  pub begin-reached : (i : Input) (w : Writer) (W H : ℕ) (x z : Memory) → i.phase ≡ 3 → i.left ≡ W * H → ShapeIn W H i.levels
      → Reached n k (begins (record { width = W; height = H; levels = i.levels }) ∷ []) false [] (begin_state n i w W H x z)
  unfolding drawn_text
  begin-reached i w W H x z p q b =
      subst (Reached n k _ false []) (sym (begin-is i w W H x z (set-up-in n store b)))
      (begun W H i.levels [] 0 refl b all_none (reads refl refl p (omega arith))
      (record {
        drawn = [];
        ran = fresh-ran W i.levels n x;
        text = left-size k z W H i.levels ∙ sym (append-nil _) ∙ sym (append-nil _);
        idle = λ _. fresh-waits W i.levels n;
        last = λ _. omega arith;
        room = λ h. absurd (omega arith);
      }))

  pub begin-input : (i : Input) (w : Writer) (W H : ℕ) (x z : Memory) → ShapeIn W H i.levels → (begin_state n i w W H x z).listing.input ≡ i
  begin-input i w W H x z b = ap (λ t. t.listing.input) (begin-is i w W H x z (set-up-in n store b))

  -- ---- heights are offered
  module _ (W H L : ℕ) (hs : List ℕ) (o : List ℕ) (s : State) (b : ShapeIn W H L) (e : Begun n k W H L hs 0 false o s) (idle : Idle s) (run : List ℕ)
      (room : length hs + length run ≤ W * H) where
    pub out : OfferOut W L n (set-up-in n store b) hs e.drawn s.listing.writer s.store e.ran (e.idle (omega arith)) run
    out =
        offer-out W L n (set-up-in n store b) hs e.drawn s.listing.writer s.store e.ran (e.idle (omega arith)) run H b.some-columns
        b.rows room

    pub offered-begun : (i : Input) → Begun n k W H L (hs ++ take out.took.taken run) 0 false o
        (draw_state n k i out.took.writer (offer_store s.listing.writer n run s.store) s.row)
    offered-begun i =
        draw-begun n k W H L (set-up-in n store b) (omega (arith, b.columns)) i out.took.writer _ s.row _ false o e.drawn out.ran
        (idle-text k s o _ idle e.text ∙ append-nil _)

    pub offered-input : (i : Input) → (draw_state n k i out.took.writer (offer_store s.listing.writer n run s.store) s.row).listing.input ≡ i
    offered-input i = drawn-input n k W H L (set-up-in n store b) (omega (arith, b.columns)) i out.took.writer _ s.row _ false e.drawn out.ran

  -- one height
  offer-is : (i : Input) (w : Writer) (v : ℕ) (x z : Memory) (t : Took) → offer_reply w n (v ∷ []) x ≡ gives t
      → offer_state n k i w v x z ≡ draw_state n k i t.writer (offer_store w n (v ∷ []) x) z
  unfolding offer_state
  offer-is i w v x z t e = rw e refl

  pub height-input : (W H L : ℕ) (hs : List ℕ) (o : List ℕ) (s : State) → ShapeIn W H L → Begun n k W H L hs 0 false o s → Idle s → (i : Input) (v : ℕ)
      → length hs < W * H
      → (offer_state n k i s.listing.writer v s.store s.row).listing.input ≡ i
  height-input W H L hs o s b e idle i v h =
      let t = out W H L hs o s b e idle (v ∷ []) (omega arith) in
      ap (λ y. y.listing.input) (offer-is i s.listing.writer v s.store s.row t.took t.reply)
      ∙ offered-input W H L hs o s b e idle (v ∷ []) (omega arith) i

  pub height-begun : (W H L : ℕ) (hs : List ℕ) (o : List ℕ) (s : State) → ShapeIn W H L → Begun n k W H L hs 0 false o s → Idle s → (i : Input) (v : ℕ)
      → length hs < W * H
      → Begun n k W H L (hs ++ (v ∷ [])) 0 false o (offer_state n k i s.listing.writer v s.store s.row)
  height-begun W H L hs o s b e idle i v h =
      let t = out W H L hs o s b e idle (v ∷ []) (omega arith) in
      let one : t.took.taken ≡ 1 = omega (arith, t.most, t.some (omega arith)) in
      subst (Begun n k W H L (hs ++ (v ∷ [])) 0 false o) (sym (offer-is i s.listing.writer v s.store s.row t.took t.reply))
      (subst (λ m. Begun n k W H L (hs ++ take m (v ∷ [])) 0 false o
      (draw_state n k i t.took.writer (offer_store s.listing.writer n (v ∷ []) s.store) s.row)) one (offered-begun W H L hs o s b e idle (v ∷ [])
      (omega arith) i))
