-- A list of C calls on a turn-giver's array shows what the list of Rattle's calls shows, told in C's numbers: so what is proved of the lists of a turn-giver
-- holds of them. Assumes nothing.
use mathlib.Core.Path.{◌≡◌, refl, ap, ap₂, ◌∙◌}
use mathlib.Core.List.{List, [], ◌∷◌, zip_with}
use Prim.Native.Nat.{ℕ}
use Rattle.calls.specs.Lists.{Reply, gives, refused, seen}
use Rattle.calls.specs.Lists as lists
use Rattle.turns.specs.declared.Turns.{Turns}
use Rattle.turns.specs.Answers.{Given, a_reader, nothing}
use Rattle.turns.specs.Calls.{fresh, mark_reply, clear_reply, turn_reply}
use Rattle.turns.specs.Lists.{Call, event, next, events, served, changed_to, turned_to}
use Rattle.turns.specs.Lists as rattle
use Rattle.states.specs.WriterAnswers.{number}
use Rattle.states.specs.TurnsState.{turns_words, changed_words, turn_words, reader_of}
use Rattle.states.proofs.StateTheorems.{turns-is}
use Rattle.terrain.specs.TurnsLists.{CCall, marks, clears, turns, seen_of, leaves, seen_all, told, told_all, calls}

-- an answer told, and the array that it leaves
mark-told : (n z : ℕ) (r : Reply Turns) → marks n (number r) ≡ told z (rattle.marks n (seen (λ _. tt) r))
unfolding told
mark-told n z (gives t) = refl
mark-told n z (refused k) = refl

clear_told : (n z : ℕ) (r : Reply Turns) → clears n (number r) ≡ told z (rattle.clears n (seen (λ _. tt) r))
unfolding told
clear_told n z (gives t) = refl
clear_told n z (refused k) = refl

turn-told : (z : ℕ) (r : Reply Given) → turns (number r) (reader_of r z) ≡ told z (rattle.turns (seen served r))
unfolding told
turn-told z (gives (a_reader n t)) = refl
turn-told z (gives nothing) = refl
turn-told z (refused k) = refl

changed-left : (t : Turns) (r : Reply Turns) → changed_words r (turns_words t) ≡ turns_words (changed_to t r)
changed-left t (gives u) = refl
changed-left t (refused k) = refl

turn-left : (t : Turns) (r : Reply Given) → turn_words r (turns_words t) ≡ turns_words (turned_to t r)
turn-left t (gives (a_reader n u)) = refl
turn-left t (gives nothing) = refl
turn-left t (refused k) = refl

-- one call
module _ (t : Turns) where
  seen-told : (d : Call) (z : ℕ) → seen_of (turns_words t) d z ≡ told z (event d t)
  unfolding seen_of event
  seen-told (rattle.mark n) z = rw (turns-is t) (mark-told n z (mark_reply t n))
  seen-told (rattle.clear n) z = rw (turns-is t) (clear_told n z (clear_reply t n))
  seen-told rattle.turn z = rw (turns-is t) (turn-told z (turn_reply t))

  leaves-next : (d : Call) → leaves (turns_words t) d ≡ turns_words (next d t)
  unfolding leaves next
  leaves-next (rattle.mark n) = rw (turns-is t) (changed-left t (mark_reply t n))
  leaves-next (rattle.clear n) = rw (turns-is t) (changed-left t (clear_reply t n))
  leaves-next rattle.turn = rw (turns-is t) (turn-left t (turn_reply t))

pub turns-lists : (ds : List CCall) (t : Turns) → seen_all ds (turns_words t) ≡ told_all ds (events (calls ds) t)
unfolding lists.events zip_with
turns-lists [] t = refl
turns-lists (d ∷ ds) t =
    ap₂ (λ e l. e ∷ l) (seen-told t d.call d.reader) (ap (seen_all ds) (leaves-next t d.call) ∙ turns-lists ds (next d.call t))
