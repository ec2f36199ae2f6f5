-- A file tells its shape, its step and its plane (`file-told`), and is made of nothing else (`same-file`). Assumes nothing.
use mathlib.Core.Path.{◌≡◌, refl, sym, ap, ap₂, ◌∙◌, subst}
use mathlib.Core.Bool.{Bool, true, false}
use mathlib.Core.List.{List, [], ◌∷◌, ◌++◌, append_assoc}
use Prim.Native.Nat.{ℕ, zero, suc, ◌+◌, ◌^◌, ◌≤◌, ◌<◌}
use native.Mathlib.Omega.{arith}
use lib.IntN.{ℤ, pos, negsuc}
use lib.ListN.{length, get_or}
use borrow.Author.Tests.{eqb-true, eq-eqb}
use Rattle.numbers.specs.Signal.{pick}
use Rattle.numbers.proofs.Sweep.{both}
use Rattle.wavelet.specs.declared.shape.Shape.{Shape}
use Rattle.wavelet.specs.Shape.{columns, rows}
use Rattle.wavelet.specs.Bands.{Band, LL, HL, LH, HH, code}
use Rattle.wavelet.specs.Order.{RowName, row_name, same_name, times}
use Rattle.wavelet.specs.View.{Kept}
use Rattle.wavelet.specs.ViewCall.{band_row_exists}
use Rattle.wavelet.proofs.StepLaws.{steps-once}
use Rattle.wavelet.proofs.ViewLaws.{exists-kept}
use Rattle.wavelet.proofs.ViewAsks.{kept-exists}
use Rattle.filters.specs.Filters.{filter_of}
use Rattle.ground_file.specs.Groups.{zigzag, row_bytes}
use Rattle.ground_file.specs.File.{listed, numbers_of, rows_bytes, wanted}
use Rattle.ground_file.proofs.Digits.{Below, none, more}
use Rattle.ground_file.proofs.GroupLaws.{row_told}

-- ---- numbers
pub zigzag-told : (u v : ℤ) → zigzag u ≡ zigzag v → u ≡ v
unfolding zigzag
zigzag-told (pos m) (pos n) e = let h : m ≡ n = omega arith in ap pos h
zigzag-told (pos m) (negsuc n) e = absurd (omega arith)
zigzag-told (negsuc m) (pos n) e = absurd (omega arith)
zigzag-told (negsuc m) (negsuc n) e = let h : m ≡ n = omega arith in ap negsuc h

pub listed-length : (n : ℕ) (x : ℕ → ℕ) → length (listed n x) ≡ n
unfolding listed
listed-length zero x = refl
listed-length (suc n) x = ap suc (listed-length n (λ i. x (suc i)))

pub listed_at : (n : ℕ) (x : ℕ → ℕ) (i : ℕ) → i < n → get_or (listed n x) i 0 ≡ x i
unfolding listed
listed_at zero x i h = absurd (omega arith)
listed_at (suc n) x zero h = refl
listed_at (suc n) x (suc i) h = listed_at n (λ j. x (suc j)) i (omega arith)

pub listed_below : (b n : ℕ) (x : ℕ → ℕ) → ((i : ℕ) → i < n → x i < b) → Below b (listed n x)
unfolding listed
listed_below b zero x h = none
listed_below b (suc n) x h = more (h 0 (omega arith)) (listed_below b n (λ i. x (suc i)) (λ i l. h (suc i) (omega arith)))

pub listed_same : (n : ℕ) (x y : ℕ → ℕ) → ((i : ℕ) → i < n → x i ≡ y i) → listed n x ≡ listed n y
unfolding listed
listed_same zero x y h = refl
listed_same (suc n) x y h = ap₂ ◌∷◌ (h 0 (omega arith)) (listed_same n (λ i. x (suc i)) (λ i. y (suc i)) (λ i l. h (suc i) (omega arith)))

-- ---- names
code-told : (b c : Band) → code b ≡ code c → b ≡ c
unfolding code
code-told LL LL e = refl
code-told HL HL e = refl
code-told LH LH e = refl
code-told HH HH e = refl
code-told LL HL e = absurd (omega arith)
code-told LL LH e = absurd (omega arith)
code-told LL HH e = absurd (omega arith)
code-told HL LL e = absurd (omega arith)
code-told HL LH e = absurd (omega arith)
code-told HL HH e = absurd (omega arith)
code-told LH LL e = absurd (omega arith)
code-told LH HL e = absurd (omega arith)
code-told LH HH e = absurd (omega arith)
code-told HH LL e = absurd (omega arith)
code-told HH HL e = absurd (omega arith)
code-told HH LH e = absurd (omega arith)

name-is : (x y : RowName) → x.level ≡ y.level → x.band ≡ y.band → x.row ≡ y.row → x ≡ y
name-is x y p q r = λ i. record { level = p i; band = q i; row = r i }

pub same-is : (x y : RowName) → same_name x y ≡ true → x ≡ y
unfolding same_name
same-is x y e =
    let p = both _ _ e in
    let q = both _ _ p.1 in
    name-is x y (eqb-true _ _ p.0) (code-told _ _ (eqb-true _ _ q.0)) (eqb-true _ _ q.1)

same_self : (x : RowName) → same_name x x ≡ true
unfolding same_name
same_self x = rw (eq-eqb x.level x.level refl, eq-eqb (code x.band) (code x.band) refl, eq-eqb x.row x.row refl) refl

pub times-first : (x : RowName) (l : List RowName) → 0 < times x (x ∷ l)
unfolding times
times-first x l = rw (same_self x) (omega arith)

-- ---- the rows that are wanted are the kept ones
ahead-some : (f : ℕ) → 1 ≤ (filter_of f).ahead
unfolding filter_of
ahead-some zero = omega arith
ahead-some (suc f) = omega arith

module _ (s : Shape) (some : 1 ≤ s.levels) where
  abbrev exists : RowName → Bool
  exists x = band_row_exists (columns s) (rows s) s.levels x.level x.band x.row

  once : (x : RowName) → times x (wanted s) ≡ pick (exists x) 1 0
  once x = steps-once (filter_of s.filter).ahead (ahead-some s.filter) (columns s) (rows s) s.levels some x

  pub wanted-kept : (x : RowName) → 0 < times x (wanted s) → Kept (columns s) (rows s) s.levels x.level x.band x.row
  wanted-kept x h = exists-kept (columns s) (rows s) s.levels x.level x.band x.row (go (exists x) (once x))
    where
      go : (t : Bool) → times x (wanted s) ≡ pick t 1 0 → t ≡ true
      go true e = refl
      go false e = absurd (omega arith)

  pub kept-wanted : (k : ℕ) (b : Band) (r : ℕ) → Kept (columns s) (rows s) s.levels k b r → 0 < times (row_name k b r) (wanted s)
  kept-wanted k b r h =
      let e : exists (row_name k b r) ≡ true = kept-exists (columns s) (rows s) s.levels k b r h in
      let n : times (row_name k b r) (wanted s) ≡ 1 = once (row_name k b r) ∙ ap (λ t. pick t 1 0) e in
      omega arith

-- ---- the bytes of band rows tell their numbers
abbrev pub Small : Shape → ℕ → (ℕ → ℤ) → RowName → Type 0
Small s q p x = Below (2 ^ 28) (numbers_of s q p x)

pub rows_told : (s : Shape) (q : ℕ) (p p' : ℕ → ℤ) (l : List RowName) {t u : List ℕ}
    → ((x : RowName) → 0 < times x l → Small s q p x × Small s q p' x)
    → rows_bytes s q p l ++ t ≡ rows_bytes s q p' l ++ u
    → ((x : RowName) → 0 < times x l → numbers_of s q p x ≡ numbers_of s q p' x) × (t ≡ u)
unfolding rows_bytes times
rows_told s q p p' [] h e = (λ x z. absurd (omega arith), e)
rows_told s q p p' (y ∷ l) {t} {u} h e =
    let first = h y (times-first y l) in
    let this =
    row_told (numbers_of s q p y) (numbers_of s q p' y) (sizes y) first.0 first.1
    (sym (append_assoc (row_bytes (numbers_of s q p y)) (rows_bytes s q p l) t) ∙ e ∙ append_assoc (row_bytes (numbers_of s q p' y)) (rows_bytes s q p' l) u) in
    let others = rows_told s q p p' l (λ x z. h x (later x z)) this.1 in
    (λ x z. go x (same_name x y) refl z this.0 others.0, others.1)
  where
    sizes : (x : RowName) → length (numbers_of s q p x) ≡ length (numbers_of s q p' x)
    sizes x = unfold numbers_of in (listed-length _ _ ∙ sym (listed-length _ _))

    later : (x : RowName) → 0 < times x l → 0 < pick (same_name x y) 1 0 + times x l
    later x z = omega arith

    go : (x : RowName) (b : Bool) → same_name x y ≡ b → 0 < pick b 1 0 + times x l → numbers_of s q p y ≡ numbers_of s q p' y
        → ((z : RowName) → 0 < times z l → numbers_of s q p z ≡ numbers_of s q p' z) → numbers_of s q p x ≡ numbers_of s q p' x
    go x true d z a f = subst (λ v. numbers_of s q p v ≡ numbers_of s q p' v) (sym (same-is x y d)) a
    go x false d z a f = f x (omega arith)
