-- What comes at a place of the text, by where its LF is found and by its key: each case of the code is a case of the definition.
-- Assumes nothing.
use mathlib.Core.Path.{◌≡◌, ap, sym, ◌∙◌}
use mathlib.Core.Bool.{true, false}
use mathlib.Core.List.{List}
use Prim.Native.Nat.{ℕ, ◌+◌, ◌-◌, ◌≤◌, ◌<◌}
use native.Mathlib.Omega.{arith}
use borrow.Author.Tests.{le-ltb, lt-ltb}
use lib.ListN.{length, drop, take, length-drop}
use Rattle.text.specs.Text.{seek, before, value_part, key_is}
use Rattle.text.specs.Rows.{word}
use Rattle.values.specs.Values.{value_of}
use Rattle.std.specs.Prelude.{Ok, Err, Some, None}
use Rattle.text.specs.declared.TextFault.TheVariants.{NotDue, TextEnds}
use Rattle.day_calls.specs.declared.Next.TheVariants.{Settle}
use Rattle.day_calls.specs.DayCalls.{take_row, take_of, settle_asked, next_at, Coming}

module _ (text : List ℕ) (at : ℕ) where
  pub past_end : length text ≤ at → ◌≡◌ {A = Coming} (Ok None) (next_at text at)
  unfolding next_at
  past_end h = simp (le-ltb _ _ h)

  -- the LF is looked for from the place and found at e
  module _ (inside : at < length text) (e : ℕ) (he : e ≡ at + seek 10 10 (drop at text)) where
    pub unended : length text ≤ e → ◌≡◌ {A = Coming} (Err TextEnds) (next_at text at)
    unfolding next_at
    unended h =
        let n : length (drop at text) ≤ seek 10 10 (drop at text) = omega (arith, length-drop at text) in
        simp (lt-ltb _ _ inside, le-ltb _ _ n)

    module _ (short : e < length text) where
      ends : seek 10 10 (drop at text) < length (drop at text)
      ends = omega (arith, length-drop at text)

      abbrev line : List ℕ
      line = take (e - at) (drop at text)

      whole : line ≡ before 10 (drop at text)
      whole = let n : e - at ≡ seek 10 10 (drop at text) = omega arith in ap (λ (k : ℕ). take k (drop at text)) n

      pub take_line : key_is line (word "take") ≡ true → take_of (value_of take_row (value_part line)) (e + 1) ≡ next_at text at
      unfolding next_at
      take_line k =
          simp (lt-ltb _ _ inside, lt-ltb _ _ ends, ap (λ (x : List ℕ). key_is x (word "take")) (sym whole) ∙ k)
          (ap (λ (x : List ℕ). take_of (value_of take_row (value_part x)) (e + 1)) whole
          ∙ ap (λ (x : ℕ). take_of (value_of take_row (value_part (before 10 (drop at text)))) (x + 1)) he)

      pub record_line : key_is line (word "take") ≡ false → key_is line (word "hour") ≡ true → ◌≡◌ {A = Coming} (Ok (Some (Settle (settle_asked text at)))) (next_at text at)
      unfolding next_at
      record_line k h =
          simp (
            lt-ltb _ _ inside,
            lt-ltb _ _ ends,
            ap (λ (x : List ℕ). key_is x (word "take")) (sym whole) ∙ k,
            ap (λ (x : List ℕ). key_is x (word "hour")) (sym whole) ∙ h,
          )

      pub other_line : key_is line (word "take") ≡ false → key_is line (word "hour") ≡ false → ◌≡◌ {A = Coming} (Err NotDue) (next_at text at)
      unfolding next_at
      other_line k h =
          simp (
            lt-ltb _ _ inside,
            lt-ltb _ _ ends,
            ap (λ (x : List ℕ). key_is x (word "take")) (sym whole) ∙ k,
            ap (λ (x : List ℕ). key_is x (word "hour")) (sym whole) ∙ h,
          )
