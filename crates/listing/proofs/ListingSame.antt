-- The listing of an input that is accepted shows its L, size and heights, and nothing else of it: `accepted-listing`. So accepted inputs in which
-- these are equal have equal listings, whatever their headers (`same-listing`).
-- Assumes nothing.
use mathlib.Core.Path.{◌≡◌, sym, ap, ◌∙◌}
use mathlib.Core.Bool.{true, false}
use mathlib.Core.List.{List}
use Prim.Native.Nat.{ℕ}
use lib.ListN.{length}
use borrow.Author.Tests.{eq-eqb}
use Rattle.pgm.specs.Header.{Read, found, short, wrong}
use Rattle.text.specs.Refusal.{refused_line}
use Rattle.pgm.specs.Heights.{heights_taken, too_large, bytes_of}
use Rattle.listing.specs.Listing.{Shape, Head, cells, lines_due, body_of, listing_of, Accepted}

-- what a head and the bytes after it are listed as
abbrev head_lists : Read Head → List ℕ
head_lists x = elim x [ found h r ↦ body_of h.shape h.largest r | short ↦ refused_line 15 | wrong ↦ refused_line 15 ]

body : (q : Shape) (m : ℕ) (r : List ℕ) → too_large m (cells q) r ≡ false → length r ≡ bytes_of m (cells q)
    → body_of q m r ≡ lines_due q (heights_taken m (cells q) r) true
unfolding body_of
body q m r e f = rw (e, eq-eqb (length r) (bytes_of m (cells q)) f)

pub accepted-listing : {s : List ℕ} {q : Shape} {hs : List ℕ} → Accepted s q hs → listing_of s ≡ lines_due q hs true
unfolding listing_of
accepted-listing {q = q} a = ap head_lists a.head ∙ body q a.largest a.rest a.within a.bytes ∙ ap (λ l. lines_due q l true) (sym a.heights)

pub same-listing : {s t : List ℕ} {q : Shape} {hs : List ℕ} → Accepted s q hs → Accepted t q hs → listing_of s ≡ listing_of t
same-listing a b = accepted-listing a ∙ sym (accepted-listing b)
