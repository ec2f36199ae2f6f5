-- Lists of calls on any machine: one list after another, what every call keeps (`list-reached`), and one machine that shows what another shows,
-- told in its own way (`told-events`), and is left as the other is (`told-final`). Assumes nothing.
use mathlib.Core.Bool.{Bool, true, false}
use mathlib.Core.Path.{◌≡◌, refl, sym, ap, ap₂, subst, ◌∙◌}
use mathlib.Core.List.{List, [], ◌∷◌, ◌++◌, append-nil, append_assoc}
use lib.ListN.{length}
use Prim.Native.Nat.{suc}
use Rattle.numbers.specs.Signal.{pick}
use Rattle.calls.specs.Lists.{events, final, gathered, ever, Mixed, mine, stray, calls, told_by}

-- ---- by the events alone
module _ {Event A : Type 0} (brings : Event → List A) where
  pub gathered-append : (es fs : List Event) → gathered brings (es ++ fs) ≡ gathered brings es ++ gathered brings fs
  unfolding gathered
  gathered-append [] fs = refl
  gathered-append (e ∷ es) fs =
      ap (λ l. brings e ++ l) (gathered-append es fs) ∙ sym (append_assoc (brings e) (gathered brings es) (gathered brings fs))

  pub gathered_snoc : (es : List Event) (e : Event) → gathered brings (es ++ (e ∷ [])) ≡ gathered brings es ++ brings e
  unfolding gathered
  gathered_snoc es e = gathered-append es (e ∷ []) ∙ ap (λ l. gathered brings es ++ l) (append-nil (brings e))

pub either-no : (t : Bool) → pick t true false ≡ t
either-no true = refl
either-no false = refl

pub either-swap : (s t : Bool) → pick s true t ≡ pick t true s
either-swap true t = go t
  where
    go : (t : Bool) → true ≡ pick t true true
    go true = refl
    go false = refl
either-swap false t = sym (either-no t)

module _ {Event : Type 0} (is : Event → Bool) where
  pub ever-append : (es fs : List Event) → ever is (es ++ fs) ≡ pick (ever is es) true (ever is fs)
  unfolding ever
  ever-append [] fs = refl
  ever-append (e ∷ es) fs = ap (pick (is e) true) (ever-append es fs) ∙ go (is e)
    where
      go : (t : Bool) → pick t true (pick (ever is es) true (ever is fs)) ≡ pick (pick t true (ever is es)) true (ever is fs)
      go true = refl
      go false = refl

  pub ever-snoc : (es : List Event) (e : Event) → ever is (es ++ (e ∷ [])) ≡ pick (ever is es) true (is e)
  unfolding ever
  ever-snoc es e = ever-append es (e ∷ []) ∙ ap (pick (ever is es) true) (either-no (is e))

-- ---- one list of calls after another
module _ {Call World : Type 0} (next : Call → World → World) where
  pub final-append : (cs ds : List Call) (w : World) → final next (cs ++ ds) w ≡ final next ds (final next cs w)
  unfolding final
  final-append [] ds w = refl
  final-append (c ∷ cs) ds w = final-append cs ds (next c w)

  -- one call more
  pub final-snoc : (cs : List Call) (c : Call) (w : World) → final next (cs ++ (c ∷ [])) w ≡ next c (final next cs w)
  unfolding final
  final-snoc cs c w = final-append cs (c ∷ []) w

module _ {Call World Event : Type 0} (event : Call → World → Event) (next : Call → World → World) where
  pub events-append : (cs ds : List Call) (w : World) → events event next (cs ++ ds) w ≡ events event next cs w ++ events event next ds (final next cs w)
  unfolding events final
  events-append [] ds w = refl
  events-append (c ∷ cs) ds w = ap (λ l. event c w ∷ l) (events-append cs ds (next c w))

  pub events-snoc : (cs : List Call) (c : Call) (w : World) → events event next (cs ++ (c ∷ [])) w ≡ events event next cs w ++ (event c (final next cs w) ∷ [])
  unfolding events
  events-snoc cs c w = events-append cs (c ∷ []) w

  pub events-length : (cs : List Call) (w : World) → length (events event next cs w) ≡ length cs
  unfolding events
  events-length [] w = refl
  events-length (c ∷ cs) w = ap suc (events-length cs (next c w))

  -- what one call keeps, of the events so far and the world, a list of calls keeps
  pub list-reached : (P : List Event → World → Type 0) → ((c : Call) (es : List Event) (w : World) → P es w → P (es ++ (event c w ∷ [])) (next c w)) →
      (cs : List Call) (es : List Event) (w : World) → P es w → P (es ++ events event next cs w) (final next cs w)
  unfolding events final
  list-reached P step [] es w p = subst (λ l. P l w) (sym (append-nil es)) p
  list-reached P step (c ∷ cs) es w p =
      subst (λ l. P l (final next cs (next c w))) (append_assoc es (event c w ∷ []) (events event next cs (next c w)))
      (list-reached P step cs (es ++ (event c w ∷ [])) (next c w) (step c es w p))

-- ---- two machines: a call d of the one with primes is `call d` of the other, or a stray, and `hold w` its world for the world w
module _ {Call World Event A B World' Event' : Type 0} (event : Call → World → Event) (next : Call → World → World)
    (event' : Mixed A B → World' → Event') (next' : Mixed A B → World' → World') (call : A → Call) (hold : World → World')
    (leaves : (a : A) (w : World) → next' (mine a) (hold w) ≡ hold (next (call a) w)) (stays : (b : B) (w : World) → next' (stray b) (hold w) ≡ hold w) where
  -- the world that its calls leave is the one for what the other's leave
  pub told-final : (ds : List (Mixed A B)) (w : World) → final next' ds (hold w) ≡ hold (final next (calls call ds) w)
  unfolding final calls
  told-final [] w = refl
  told-final (mine a ∷ ds) w = ap (final next' ds) (leaves a w) ∙ told-final ds (next (call a) w)
  told-final (stray b ∷ ds) w = ap (final next' ds) (stays b w) ∙ told-final ds w

  -- what is seen of its calls is what is seen of the other's, told as `tell` says, and of a stray what `say` says
  pub told-events : (tell : A → Event → Event') (say : B → Event') → ((a : A) (w : World) → event' (mine a) (hold w) ≡ tell a (event (call a) w)) →
      ((b : B) (w : World) → event' (stray b) (hold w) ≡ say b) →
      (ds : List (Mixed A B)) (w : World) → events event' next' ds (hold w) ≡ told_by tell say ds (events event next (calls call ds) w)
  unfolding events calls told_by
  told-events tell say seen strays [] w = refl
  told-events tell say seen strays (mine a ∷ ds) w =
      ap₂ (λ e l. e ∷ l) (seen a w) (ap (events event' next' ds) (leaves a w) ∙ told-events tell say seen strays ds (next (call a) w))
  told-events tell say seen strays (stray b ∷ ds) w =
      ap₂ (λ e l. e ∷ l) (strays b w) (ap (events event' next' ds) (stays b w) ∙ told-events tell say seen strays ds w)
