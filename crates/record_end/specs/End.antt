-- Where an hour record ends in a text: with its first line that is exactly `end=hour` (01, Hour record: "last `end=hour`"). 10 is LF.
use Rattle.std.specs.Prelude.{ℕ, suc, ◌+◌, Bool, true, false, cond, List, [], ◌∷◌, eqb, drop}
use Rattle.text.specs.Text.{seek, before, has, value_part, word_is, key_is}
use Rattle.text.specs.Rows.{word}

-- "a line that is exactly `end=hour`"
abbrev pub is_end : List ℕ → Bool
is_end line = cond (key_is line (word "end")) (word_is (value_part line) (word "hour")) false

-- how many bytes stand before the place "behind the next line that is exactly `end=hour`", all where there is none; `starts` says that the
-- first byte begins a line
unfoldable pub behind : (starts : Bool) → List ℕ → ℕ
behind starts [] = 0
behind starts (x ∷ xs) =
    cond starts
    (cond (has 10 (x ∷ xs)) (cond (is_end (before 10 (x ∷ xs))) (suc (seek 10 10 (x ∷ xs))) (suc (behind (eqb x 10) xs))) (suc (behind (eqb x 10) xs)))
    (suc (behind (eqb x 10) xs))

abbrev pub behind_record : List ℕ → ℕ → ℕ
behind_record text at = at + behind true (drop at text)
