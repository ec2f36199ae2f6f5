-- The text of the rows that were drawn, and the text that is due as a function of what the input brought. Definitions for ListingTheorem; they assume nothing.
use mathlib.Core.Bool.{Bool, true, false}
use mathlib.Core.List.{List, [], ◌∷◌, ◌++◌}
use Prim.Native.Nat.{ℕ}
use Rattle.writer.specs.History.{DrawnRow}
use Rattle.text.specs.Refusal.{refused_line, answer_line}
use Rattle.listing.specs.Lines.{spaced}
use Rattle.listing.specs.Listing.{lines_due}
use Rattle.listing.specs.Parts.{head_text, head_part}
use Rattle.listing.specs.Events.{Event, begins, height, refusal, whole, few, over, Reading}

-- a drawn row as the code writes it
unfoldable pub drawn_line : DrawnRow → List ℕ
drawn_line d = head_text (head_part d.row.level d.row.band d.row.row d.row.length) ++ (spaced d.row.length d.values ++ (10 ∷ []))

unfoldable pub drawn_text : List DrawnRow → List ℕ
drawn_text [] = []
drawn_text (d ∷ l) = drawn_line d ++ drawn_text l

-- the heights among some events, and the number of the refusal among them, 0 for none
unfoldable pub heights_in : List Event → List ℕ
heights_in [] = []
heights_in (begins q ∷ es) = heights_in es
heights_in (height v ∷ es) = v ∷ heights_in es
heights_in (refusal q ∷ es) = heights_in es

unfoldable pub refused_in : List Event → ℕ
refused_in [] = 0
refused_in (begins q ∷ es) = refused_in es
refused_in (height v ∷ es) = refused_in es
refused_in (refusal q ∷ es) = q

-- what is due of them while more may come, f being whether the map was finished
unfoldable pub text_of : Bool → List Event → List ℕ
text_of f [] = []
text_of f (begins q ∷ es) = lines_due q (heights_in es) f ++ answer_line (refused_in es)
text_of f (height v ∷ es) = []
text_of f (refusal q ∷ es) = refused_line q

-- and with the end of the input
abbrev pub end_text : Reading → List ℕ
end_text t = elim t.ending [ whole ↦ text_of true t.events | few ↦ text_of false t.events ++ refused_line 15 | over ↦ text_of false t.events ]
