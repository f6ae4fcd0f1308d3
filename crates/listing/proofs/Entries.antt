-- The settled hours line by line, entry after entry, are the lines of the hours one after the other: entry 8 * h + k is that of hour h and place k, and an
-- hour that is not settled has none at any place.
-- Assumes nothing.
use mathlib.Core.Path.{◌≡◌, refl, sym, ap, ap₂, ◌∙◌}
use mathlib.Core.Bool.{Bool, true, false, cond, ◌&&◌}
use mathlib.Core.List.{List, [], ◌++◌, append_assoc, append-nil}
use Prim.Native.Nat.{ℕ, zero, suc, ◌+◌, ◌*◌, ◌/◌, ◌%◌, ◌<◌}
use native.Mathlib.Omega.{arith}
use lib.Dec.{eqb}
use lib.ListN.{get_or}
use Rattle.state.specs.declared.Book.{Book}
use Rattle.state.specs.Sizes.{hours, places}
use Rattle.state.specs.Book.{no_grains, past_amounts, mark_at, settled_mark}
use Rattle.units.specs.Units.{member_at}
use Rattle.listing.specs.Listing.{joined, unit_line, line_of, hour_lines, settled_lines, line_behind, hour_behind, settled_behind, entry_line}

pub joined_same : (n : ℕ) (f g : ℕ → List ℕ) → ((k : ℕ) → k < n → f k ≡ g k) → joined n f ≡ joined n g
unfolding joined
joined_same zero f g h = refl
joined_same (suc n) f g h = ap₂ ◌++◌ (joined_same n f g (λ k b. h k (omega arith))) (h n (omega arith))

joined_add : (a b : ℕ) (f : ℕ → List ℕ) → joined (a + b) f ≡ joined a f ++ joined b (λ k. f (a + k))
unfolding joined
joined_add a zero f = let e : a + 0 ≡ a = omega arith in ap (λ (n : ℕ). joined n f) e ∙ sym (append-nil (joined a f))
joined_add a (suc b) f =
    let e : a + suc b ≡ suc (a + b) = omega arith in
    ap (λ (n : ℕ). joined n f) e
    ∙ (ap (λ (l : List ℕ). l ++ f (a + b)) (joined_add a b f) ∙ append_assoc (joined a f) (joined b (λ k. f (a + k))) (f (a + b)))

-- n groups of eight
pub joined_eights : (n : ℕ) (f : ℕ → List ℕ) → joined (8 * n) f ≡ joined n (λ h. joined 8 (λ k. f (8 * h + k)))
unfolding joined
joined_eights zero f = refl
joined_eights (suc n) f =
    let e : 8 * suc n ≡ 8 * n + 8 = omega arith in
    ap (λ (m : ℕ). joined m f) e ∙ (joined_add (8 * n) 8 f ∙ ap (λ (l : List ℕ). l ++ joined 8 (λ k. f (8 * n + k))) (joined_eights n f))

-- lines that are there or not, all alike
joined_where : (t : Bool) (n : ℕ) (f : ℕ → List ℕ) → joined n (λ k. cond t (f k) []) ≡ cond t (joined n f) []
unfolding joined
joined_where true n f = refl
joined_where false zero f = refl
joined_where false (suc n) f = ap (λ (l : List ℕ). l ++ []) (joined_where false n f)

-- a line that two tests allow
both : (s t : Bool) (l : List ℕ) → cond (s && t) l [] ≡ cond s (cond t l []) []
both true t l = refl
both false t l = refl

module _ (front : List ℕ) (units : ℕ) (b : Book) where
  entry_at : (h k : ℕ) → k < places → entry_line front units b (8 * h + k) ≡ cond (eqb (mark_at b h) settled_mark) (line_behind front units b h k) []
  unfolding line_behind
  entry_at h k l =
      let hour : (8 * h + k) / 8 ≡ h = omega arith in
      let place : (8 * h + k) % 8 ≡ k = omega arith in
      let grains = (get_or b.energy (8 * h + k) no_grains).0 in
      let amounts = get_or b.amounts (8 * h + k) past_amounts in
      ap₂ (λ (x y : ℕ). cond (eqb (mark_at b x) settled_mark && member_at units y) (front ++ unit_line (x + 1) (y + 1) grains amounts) []) hour place
      ∙ both (eqb (mark_at b h) settled_mark) (member_at units k) (front ++ unit_line (h + 1) (k + 1) grains amounts)

  pub all_entries : joined 192 (entry_line front units b) ≡ settled_behind front units b
  unfolding settled_behind hour_behind
  all_entries =
      joined_eights hours (entry_line front units b)
      ∙ joined_same hours _ _ (λ h bh.
      joined_same places _ _ (λ k l. entry_at h k l) ∙ joined_where (eqb (mark_at b h) settled_mark) places (line_behind front units b h))

pub none_in_front : (units : ℕ) (b : Book) → settled_behind [] units b ≡ settled_lines units b
unfolding settled_behind hour_behind line_behind settled_lines hour_lines line_of
none_in_front units b = refl
