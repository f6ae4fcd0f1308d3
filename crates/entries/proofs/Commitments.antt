-- The commitments entry by entry are those of the hours one after the other: entry 8 * h + k is that of hour h and place k.
-- Assumes nothing.
use mathlib.Core.Path.{◌≡◌, ap₂, ◌∙◌}
use mathlib.Core.List.{List}
use Prim.Native.Nat.{ℕ, ◌+◌, ◌*◌, ◌/◌, ◌%◌}
use lib.ListN.{get_or}
use native.Mathlib.Omega.{arith}
use Rattle.state.specs.declared.Book.{Book}
use Rattle.state.specs.Sizes.{hours, places}
use Rattle.listing.specs.Listing.{joined}
use Rattle.listing.proofs.Entries.{joined_same, joined_eights}
use Rattle.state.specs.Book.{no_kwh, commitment_at}
use Rattle.entries.specs.Tables.{held_line, hour_commitments, commitment_lines}

-- for the code: the line of entry e
abbrev pub entry_commitment : Book → (e : ℕ) → List ℕ
entry_commitment b e = held_line (e / 8) (e % 8) (get_or b.commitment e no_kwh)

pub all_commitments : (b : Book) → joined 192 (entry_commitment b) ≡ commitment_lines b
unfolding commitment_lines hour_commitments
all_commitments b =
    joined_eights hours (entry_commitment b)
    ∙ joined_same hours _ _ (λ h bh. joined_same places _ _ (λ k l.
    let hour : (8 * h + k) / 8 ≡ h = omega arith in
    let place : (8 * h + k) % 8 ≡ k = omega arith in
    ap₂ (λ (x y : ℕ). held_line x y (commitment_at b h k)) hour place))
